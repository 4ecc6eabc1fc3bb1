-- A torn leg takes and sends no label more than the leg that it was.
use Rattle.std.proofs.{Common.{◌≡◌, ℕ, true, inl, inr}, lemmas.Bool.{or_cases, or_left, or_right}}
use Rattle.std.specs.Prelude.{None}
use Rattle.ason_base.specs.{declared.ids.Fibre.Fibre, declared.tables.Leg.Leg}
use Rattle.mesh_rules.specs.Legs.{closed, is_at, reverse_of, sends_label, takes, uses}
use Rattle.mesh_nodes.proofs.LabelPlaces.{none-at}

-- A torn leg takes no label but those of the leg.
pub closed-takes : (g : Leg) (f : Fibre) (x : ℕ) → takes f x (closed g) ≡ true → takes f x g ≡ true
closed-takes g f x this =
    elim (or_cases (is_at g.in_fibre None f x) (is_at (reverse_of g.out_fibre) g.back_in f x) this) [
      | inl on ↦ (let none = none-at g.in_fibre f x in absurd (cc (none, on)))
      | inr on ↦ or_right (is_at g.in_fibre g.in_label f x) _ on
    ]

-- It sends none but those of the leg.
pub closed-sends : (g : Leg) (f : Fibre) (x : ℕ) → sends_label f x (closed g) ≡ true → sends_label f x g ≡ true
closed-sends g f x this =
    elim (or_cases (is_at g.out_fibre g.out_label f x) (is_at (reverse_of g.in_fibre) None f x) this) [
      | inl on ↦ or_left (is_at g.out_fibre g.out_label f x) _ on
      | inr on ↦ (let none = none-at (reverse_of g.in_fibre) f x in absurd (cc (none, on)))
    ]

-- So it uses none but those of the leg.
pub closed-uses : (g : Leg) (f : Fibre) (x : ℕ) → uses f x (closed g) ≡ true → uses f x g ≡ true
closed-uses g f x this = elim (or_cases (takes f x (closed g)) (sends_label f x (closed g)) this) [
  | inl taken ↦ or_left (takes f x g) (sends_label f x g) (closed-takes g f x taken)
  | inr sent ↦ or_right (takes f x g) (sends_label f x g) (closed-sends g f x sent)
]
