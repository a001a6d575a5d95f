use Rattle.std.proofs.lemmas.Str.{encodes-chars}
use Rattle.kt_lex.proofs.numbering.number.Goals as goal

pub returns-clause-number : goal.returns-clause-number
returns-clause-number c = rw (encodes-chars c.args.name.now c.utf8.name) c.number.ensures.number

pub returns-clause-names : goal.returns-clause-names
returns-clause-names c = rw (encodes-chars c.args.name.now c.utf8.name) c.number.ensures.names
