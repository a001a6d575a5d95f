use Rattle.kt_decl.proofs.reading.is_rowed.Goals as goal

pub returns : goal.returns
returns c = record {
  aboves = λ k row is. (c.is_settled.ensures.row k row is).above;
  few = λ k row is. (c.is_settled.ensures.row k row is).few;
}
