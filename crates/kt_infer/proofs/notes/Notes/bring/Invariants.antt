use Rattle.std.proofs.Common.{◌≡◌, drop}
use Rattle.kt_typing.specs.Typing.{parameter_types}
use Rattle.kt_infer.specs.Noting.{typing_of}
use Rattle.kt_infer.proofs.notes.Notes.bring.Given as goal

-- what is left completes the whole
abbrev pub invariant-loop-x : goal.invariant-loop-x
invariant-loop-x l = record {
  completes : parameter_types (typing_of l.body) l.fn.self.locals.entries l.parameters ≡ parameter_types (typing_of l.body) l.self.locals.entries (drop l.x-index l.parameters);
  same_rows : l.self.rows ≡ l.fn.self.rows;
  same_findings : l.self.findings.items ≡ l.fn.self.findings.items;
}
