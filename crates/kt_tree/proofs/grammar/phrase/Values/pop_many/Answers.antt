use Rattle.std.proofs.Common.{◌≡◌, ◌-◌, length, drop, take, reverse, ap, ◌∙◌, arith, vec_len}
use Rattle.kt_tree.proofs.Stacks.{last_many, before_many}
use Rattle.kt_tree.proofs.grammar.phrase.Values.pop_many.Goals as goal

pub returns-clause-taken : goal.returns-clause-taken
returns-clause-taken g c =
    let h = last_many c.self.inside.items.items c.args.count c.saturating_sub-at.result (cc) in cc (c.from_vec.ensures, c.in_ok-split_off.ensures.tail)

pub returns-clause-left : goal.returns-clause-left
returns-clause-left g c =
    let h = before_many c.self.inside.items.items c.args.count c.saturating_sub-at.result (cc) in cc (c.in_ok-split_off.ensures.items)
