use Rattle.std.proofs.Common.{arith}
use Rattle.std.proofs.lemmas.List.{length-take-le, take_more_set}
use Rattle.entries.proofs.table.Entries.add.Goals as goal

pub returns : goal.returns
returns g c =
    let t = c.args.self.now in let n = length-take-le t.used t.places (omega arith) in
    (omega arith, take_more_set t.places t.used c.args.value (omega arith))
