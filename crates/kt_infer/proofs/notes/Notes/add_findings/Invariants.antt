use Rattle.std.proofs.Common.{◌≡◌, ◌++◌, take}
use Rattle.kt_infer.proofs.notes.Notes.add_findings.Given as goal

abbrev pub invariant-loop-finding : goal.invariant-loop-finding
invariant-loop-finding l = record {
  added : l.self.findings.items ≡ l.fn.self.findings.items ++ take l.finding-index l.findings;
  same_rows : l.self.rows ≡ l.fn.self.rows;
  same_locals : l.self.locals.entries ≡ l.fn.self.locals.entries;
}
