-- A leg's own LSP doesn't keep the leg from being activated.
use Rattle.std.proofs.Common.{◌≡◌, ◌∙◌, ℕ, Bool, true, false, cond, not, List, [], ◌∷◌, refl, sym, ap}
use Rattle.std.specs.{Prelude.{◌||◌, ◌&&◌, Option, Some, None}, List.list_any}
use Rattle.ason_base.specs.{declared.ids.Fibre.Fibre, declared.ids.Lsp.Lsp, declared.tables.Leg.Leg, Lsps.{lsp_before, same_lsp}}
use Rattle.mesh_rules.specs.Legs.{is_busy, is_busy_at, is_contended, is_marked, reverse_of, uses, with_leg}
use Rattle.mesh_nodes.proofs.LegList.{same_lsp-by}

and_none : (a b c : Bool) → c ≡ true → (a && (b && not c)) ≡ false
and_none true true c e = rw e refl
and_none true false c e = refl
and_none false b c e = refl

module _ (g : Leg) (l : Lsp) (own : same_lsp g.lsp l ≡ true) (f : Fibre) (x : ℕ) where
  abbrev keeps : Leg → Bool
  keeps h = uses f x h && (is_marked h && not (same_lsp h.lsp l))

  -- a leg of the LSP itself
  none : (h : Leg) → same_lsp h.lsp l ≡ true → keeps h ≡ false
  none h same = and_none (uses f x h) (is_marked h) (same_lsp h.lsp l) same

  pub busy-with : (legs : List Leg) → is_busy (with_leg g legs) l f x ≡ is_busy legs l f x
  busy-with [] = ap (λ b. b || false) (none g own)
  busy-with (h ∷ legs) = go (same_lsp h.lsp g.lsp) (lsp_before g.lsp h.lsp) refl (busy-with legs)
    where
      go : (a b : Bool) → same_lsp h.lsp g.lsp ≡ a → list_any keeps (with_leg g legs) ≡ list_any keeps legs →
          list_any keeps (cond a (g ∷ legs) (cond b (g ∷ h ∷ legs) (h ∷ with_leg g legs))) ≡
          (keeps h || list_any keeps legs)
      go true b e rest =
          ap (λ c. c || list_any keeps legs) (none g own ∙ sym (none h (same_lsp-by h.lsp g.lsp l e ∙ own)))
      go false true e rest = ap (λ c. c || (keeps h || list_any keeps legs)) (none g own)
      go false false e rest = ap (λ c. keeps h || c) rest

-- legs that differ by a leg of its LSP contend it alike
pub contended-with : (g b : Leg) (legs : List Leg) → same_lsp g.lsp b.lsp ≡ true →
    is_contended (with_leg g legs) b ≡ is_contended legs b
contended-with g b legs own = rw (
  here b.in_fibre b.in_label,
  here (reverse_of b.out_fibre) b.back_in,
  here b.out_fibre b.out_label,
  here (reverse_of b.in_fibre) b.back_out,
) refl
  where
    here : (o : Option Fibre) (y : Option ℕ) →
        is_busy_at (with_leg g legs) b.lsp o y ≡ is_busy_at legs b.lsp o y
    here None y = refl
    here (Some f) None = refl
    here (Some f) (Some x) = busy-with g b.lsp own f x legs
