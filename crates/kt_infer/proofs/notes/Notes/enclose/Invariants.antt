use Rattle.std.proofs.Common.{◌≡◌, ◌++◌, take}
use Rattle.kt_infer.specs.Opening.{rows_of}
use Rattle.kt_infer.proofs.notes.Notes.enclose.Given as goal

abbrev pub invariant-loop-tree : goal.invariant-loop-tree
invariant-loop-tree l = record {
  added : l.self.rows ≡ l.fn.self.rows ++ rows_of (take l.tree-index l.trees) l.found;
  same_findings : l.self.findings.items ≡ l.fn.self.findings.items;
  same_locals : l.self.locals.entries ≡ l.fn.self.locals.entries;
}
