use Rattle.std.proofs.lemmas.Nat.{one_shl, and_mask}
use Rattle.word_pack.proofs.field.Field.of.Goals as goal

pub returns : goal.returns
returns c = rw (one_shl c.args.self.bits 64 c.requires.narrow) (and_mask _ c.args.self.bits)
