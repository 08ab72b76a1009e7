use Rattle.std.proofs.Common.{◌≤◌, ◌+◌, arith, ◌∙◌, add_comm}
use Rattle.std.proofs.lemmas.Nat.{shl_whole, or_shifted}
use Rattle.word_pack.proofs.field.Field.put.Goals as goal

pub returns : goal.returns
returns c =
    let inside : c.args.self.bits + c.args.self.at ≤ 64 = omega arith in
    rw (shl_whole c.args.number c.args.self.bits c.args.self.at 64 c.requires.fits inside)
    (or_shifted c.args.number c.args.self.at c.args.word c.requires.clear ∙ add_comm _ _)
