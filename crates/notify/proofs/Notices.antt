-- The Notifies of the legs up to a place.
use Rattle.std.proofs.{Common.{◌≡◌, ◌+◌, ℕ, List, [], ◌∷◌, ◌++◌, take, ap, sym, ◌∙◌, append-nil, append_assoc}, lemmas.List.take_more, lemmas.Option.{get_or_from_slice_get, slice_get_within}}
use Rattle.std.specs.Prelude.{Some, slice_get}
use Rattle.ason_base.specs.{declared.codes.ErrCode.ErrCode, declared.ids.Fibre.Fibre, declared.tables.Leg.Leg}
use Rattle.mesh_rules.specs.{Alarms.{notice_of, notices}, LocalNodes.LocalNode}

module _ (p : LocalNode) (f : Fibre) (code : ErrCode) where
  notices-last : (legs : List Leg) (g : Leg) →
      notices p f code (legs ++ g ∷ []) ≡ notices p f code legs ++ notice_of p f code g
  notices-last [] g = append-nil (notice_of p f code g)
  notices-last (h ∷ legs) g =
      ap (λ outs. notice_of p f code h ++ outs) (notices-last legs g)
      ∙ sym (append_assoc (notice_of p f code h) (notices p f code legs) (notice_of p f code g))

  pub notices-more : (legs : List Leg) (i : ℕ) (g : Leg) → slice_get legs i ≡ Some g →
      notices p f code (take (i + 1) legs) ≡ notices p f code (take i legs) ++ notice_of p f code g
  notices-more legs i g is =
      ap (notices p f code) (take_more legs i g (slice_get_within legs i g is)
      ∙ ap (λ h. take i legs ++ h ∷ []) (get_or_from_slice_get legs i g g is)) ∙ notices-last (take i legs) g
