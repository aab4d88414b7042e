-- A call of a device after calls that kept what the device knows.
use Rattle.std.proofs.Common.{ℕ, List, Option, Some, None, refl, ◌∙◌}
use Rattle.std.specs.Io.KnownBytes.{Keeps}

pub keeps_itself : (a : Option (List ℕ)) → Keeps a a
keeps_itself None = tt
keeps_itself (Some xs) = refl

pub keeps_more : (a b c : Option (List ℕ)) → Keeps a b → Keeps b c → Keeps a c
keeps_more None b c h k = tt
keeps_more (Some xs) None c h k = absurd h
keeps_more (Some xs) (Some ys) None h k = k
keeps_more (Some xs) (Some ys) (Some zs) h k = k ∙ h
