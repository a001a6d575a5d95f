use Rattle.std.proofs.Common.{◌≡◌, ◌++◌, take}
use Rattle.kt_infer.proofs.notes.Notes.add_rows.Given as goal

abbrev pub invariant-loop-row : goal.invariant-loop-row
invariant-loop-row l = record {
  added : l.self.rows ≡ l.fn.self.rows ++ take l.row-index l.rows;
  same_findings : l.self.findings.items ≡ l.fn.self.findings.items;
  same_locals : l.self.locals.entries ≡ l.fn.self.locals.entries;
}
