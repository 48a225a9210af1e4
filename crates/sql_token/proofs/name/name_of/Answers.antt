use Rattle.sql_token.specs.Token.{span}
use Rattle.sql_token.proofs.Names.{name_between, name_read}
use Rattle.sql_token.proofs.name.name_of.Goals as goal

pub returns-else-bytes-eq91 : goal.returns-else-bytes-eq91
returns-else-bytes-eq91 c =
    let read = name_read c.args.token.now.kind (span c.args.text.now c.args.token.now) _ c.undoubled.result c.requires.named c.requires.at.form
    (λ name. name_between c.args.token.now.kind (span c.args.text.now c.args.token.now) name c.in_default.not-Word c.if-bytes-eq91.false) c.undoubled.ensures in
    record { found = read.found; only = read.only }
