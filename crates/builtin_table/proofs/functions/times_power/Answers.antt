use Rattle.std.proofs.Math.Pow.{pow-lt}
use Rattle.builtin_table.proofs.functions.times_power.Goals as goal

pub pow-requires : goal.pow-requires
pow-requires c = record { sfits = pow-lt c.requires }
