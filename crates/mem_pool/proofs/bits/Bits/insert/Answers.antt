use Rattle.std.specs.Int.{w64}
use Rattle.std.proofs.lemmas.Nat.Bits.{bit_at_set_same, bit_at_set_other}
use Rattle.mem_pool.proofs.bits.Bits.insert.Goals as goal

pub returns-clause-here : goal.returns-clause-here
returns-clause-here c = bit_at_set_same w64 c.args.self.now.word c.args.number c.requires

pub returns-clause-elsewhere : goal.returns-clause-elsewhere
returns-clause-elsewhere c k apart = bit_at_set_other w64 c.args.self.now.word c.args.number c.requires k apart
