use Rattle.std.proofs.Common.{ℕ, length, arith}
use Rattle.kt_solve.specs.Words.{word_bit, row_bit}
use Rattle.kt_solve.proofs.Solved.{searched, told}
use Rattle.kt_solve.proofs.Starting.{row_bit-ones, word_bit-zeros, search_begins}
use Rattle.kt_solve.proofs.worklist.search.Goals as goal

pub run-requires-clause-search : goal.run-requires-clause-search
run-requires-clause-search g c =
    let p = c.args.p.now in
    let q = c.requires in
    let w : ℕ = length c.args.out.now in
    rw (c.start.ensures.marks, c.entry.ensures, q.marks)
    (search_begins c.args.p.now (row_bit c.start.new.words (length c.args.out.now)) (row_bit c.args.words.now (length c.args.out.now)) (word_bit c.args.out.now) q.over.within
    (λ n k ne h. c.start.ensures.others n k (rw c.entry.ensures ne) (omega (arith, h, q.over.wide)))
    (λ k h. rw (← c.entry.ensures) (c.start.ensures.row k (omega (arith, h, q.over.wide))))
    (λ n k h l. rw q.words (row_bit-ones c.args.p.now.nodes (length c.args.out.now) n k h (omega (arith, l, q.over.wide))))
    (λ k. rw q.out (word_bit-zeros (length c.args.out.now) k)))

pub returns : goal.returns
returns g c =
    rw (← c.run.auto.out) (told c.args.p.now (length c.run.new.out) c.run.new.marks c.finish.new.words
    (searched c.args.p.now c.run.new.marks (row_bit c.run.new.words (length c.run.new.out)) c.requires.over.within (rw c.run.auto.out c.run.ensures.search) c.run.ensures.done (row_bit c.finish.new.words (length c.run.new.out)) c.finish.ensures))
