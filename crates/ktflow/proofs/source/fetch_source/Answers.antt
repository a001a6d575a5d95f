use Rattle.std.proofs.Common.{◌≡◌, ◌≤◌, ◌<◌, ◌+◌, ℕ, List, ◌++◌, length, take, sym, subst, ◌∙◌, rules}
use Rattle.kt_outside.specs.Outside.{FetchGives}
use Rattle.ktflow.proofs.FetchSteps.{FetchesSoFar, keeps_then, so_far_more, ends_at_end, ends_at_limit, fails_at}
use Rattle.ktflow.proofs.source.fetch_source.Goals as goal

pub returns-then-count-eq0 : goal.returns-then-count-eq0
returns-then-count-eq0 g c =
    let at_is : c.len-in-loop-buf-2.result ≡ length c.loop-buf.source.items = search rules in
    let Q : ℕ → Type 0 = λ at. FetchGives (g.L.Library.state c.loop-buf.library) (g.L.Library.state c.fetch.new.self) c.args.name.now at c.fetch.new.buf c.in-Got.count in
    let gives = subst Q at_is c.in-Got.ensures.fetches in
    let room : 0 < length c.fetch.new.buf = search rules in
    record {
      fetches = ends_at_end _ (g.L.Library.state c.loop-buf.library) _ _ c.loop-buf.source.items c.fetch.new.buf c.in-Got.count c.loop-buf.invariant gives c.if-count-eq0.true room;
      keeps = keeps_then _ (g.L.Library.state c.loop-buf.library) _ c.loop-buf.invariant.keeps c.in-Got.ensures.keeps;
    }

pub loop-buf-preserved : goal.loop-buf-preserved
loop-buf-preserved g c =
    let at_is : c.len-in-loop-buf-2.result ≡ length c.loop-buf.source.items = search rules in
    let Q : ℕ → Type 0 = λ at. FetchGives (g.L.Library.state c.loop-buf.library) (g.L.Library.state c.fetch.new.self) c.args.name.now at c.fetch.new.buf c.in-Got.count in
    let gives = subst Q at_is c.in-Got.ensures.fetches in
    let fits : length c.loop-buf.source.items + c.in-Got.count ≤ 1048577 = search rules in
    let grown : c.extend_from_slice.new.self.items ≡ c.loop-buf.source.items ++ take c.in-Got.count c.fetch.new.buf = search rules in
    let P : List ℕ → Type 0 = λ source. FetchesSoFar (g.L.Library.state c.args.library.now) (g.L.Library.state c.fetch.new.self) c.args.name.now source in
    subst P (sym grown) (so_far_more _ (g.L.Library.state c.loop-buf.library) _ _ c.loop-buf.source.items c.fetch.new.buf c.in-Got.count c.loop-buf.invariant gives c.in-Got.ensures.keeps fits)

pub returns-in-Failed : goal.returns-in-Failed
returns-in-Failed g c = record {
  fetches = fails_at _ (g.L.Library.state c.loop-buf.library) _ _ c.loop-buf.source.items c.fetch.new.buf c.loop-buf.invariant c.in-Failed.ensures.fetches;
  keeps = keeps_then _ (g.L.Library.state c.loop-buf.library) _ c.loop-buf.invariant.keeps c.in-Failed.ensures.keeps;
}

pub returns-then-is_err : goal.returns-then-is_err
returns-then-is_err g c = record {
  fetches = c.in-Got.ensures.fetches.faults ∙ c.loop-buf.invariant.faults;
  keeps = keeps_then _ (g.L.Library.state c.loop-buf.library) _ c.loop-buf.invariant.keeps c.in-Got.ensures.keeps;
}

pub returns : goal.returns
returns g c =
    let past : 1048577 ≤ length c.loop-buf.source.items = search rules in
    record { fetches = ends_at_limit _ _ _ c.loop-buf.source.items c.loop-buf.invariant past; keeps = c.loop-buf.invariant.keeps }
