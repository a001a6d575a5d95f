use Rattle.kt_parse.proofs.files.file_of_phrase.Goals as goal

pub returns-in-Ok : goal.returns-in-Ok
returns-in-Ok c = (c.args.phrase.now, c.requires, c.in-Ok.ensures)
