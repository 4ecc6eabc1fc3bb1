-- Where nothing waits in a mesh.
use Rattle.std.specs.Prelude.{◌≡◌, ℕ, []}
use Rattle.mesh_rules.specs.Machine.{Mesh}

-- each desk is empty, and no message is under way
pub record IsQuiet (s : Mesh) : Type 0 where
  pub desks : (n : ℕ) → s.desks n ≡ []
  pub mail : (u d : ℕ) → s.mail u d ≡ []
