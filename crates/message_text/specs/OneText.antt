-- One text and no other.
use Rattle.std.specs.{Prelude.{◌≡◌, ℕ, List, String}, Global.Global}
use Rattle.ason_base.specs.Texts.{Appends}

-- the text is of this kind, and no other one is
pub record IsOne (Is : List ℕ → Type 0) (text : List ℕ) : Type 0 where
  pub is : Is text
  pub only : (other : List ℕ) → Is other → other ≡ text

-- the one text of this kind was appended
abbrev pub AppendsOne : (List ℕ → Type 0) → String Global → String Global → Type 0
AppendsOne Is old new = (text : List ℕ) × IsOne Is text × Appends old new text
