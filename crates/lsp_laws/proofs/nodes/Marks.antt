-- Why a leg may stand. It isn't marked, and each label that it takes is usable for it, or was its LSP's. Or it takes and
-- uses no more than its LSP's leg, and is marked only where that was, or where no marked leg uses a label of it.
use Rattle.std.proofs.Common.{◌≡◌, ℕ, Bool, true, false, not, List, refl, sym, ap, subst, ◌∙◌, inl, inr}
use Rattle.std.specs.Prelude.{◌⊎◌, ◌&&◌, Some}
use Rattle.ason_base.specs.{declared.ids.Fibre.Fibre, declared.ids.Lsp.Lsp, declared.tables.Leg.Leg, Lsps.same_lsp, Risks.AreDisjoint}
use Rattle.mesh_rules.specs.Legs.{find_leg, is_contended, is_marked, is_usable, takes, uses}
use Rattle.mesh_nodes.proofs.{BusyLabels.free-of, LegList.{found-lsp, same_lsp-eq, same_lsp-refl}}
use Rattle.lsp_laws.specs.LabelLaw.{MayShare}
use Rattle.lsp_laws.proofs.{nodes.Facts.{LegLabelsFit, LegFacts}, nodes.LegParts.{LegPart, MayStand}, nodes.Sharing.{TakeOnlyRead, TookBefore, none-found, read-shares}}

-- one LSP isn't another
pub other : (l m : Lsp) (P : Type 0) → same_lsp l m ≡ false → l ≡ m → P
other l m P apart same =
    let test : same_lsp l m ≡ true = subst (λ k. same_lsp l k ≡ true) same (same_lsp-refl l) in
    absurd (cc (test, apart))

-- A leg that isn't marked

-- it may share a label that its LSP's leg took, as that did
took-shares : (legs : List Leg) → LegLabelsFit legs → (g : Leg) (f : Fibre) (x : ℕ) (m : Lsp) (h : Leg) →
    TookBefore legs g f x → same_lsp g.lsp m ≡ false → find_leg m legs ≡ Some h → takes f x h ≡ true → MayShare g h
took-shares legs labels g f x m h was apart there that =
    elim (labels f x g.lsp m was.leg h was.found there was.took that) [
      | inl same ↦ other g.lsp m (MayShare g h) apart same
      | inr both ↦ record {
        backups = (sym was.role ∙ both.backups.0, both.backups.1);
        apart = subst (λ r. AreDisjoint r h.risks) was.risks both.apart;
      }
    ]

-- each label that it takes was its LSP's, or is usable for it among the legs that a rule read, which took what these take
pub may-take : (n next : ℕ) (read legs : List Leg) → LegLabelsFit legs → TakeOnlyRead read legs → (g : Leg) →
    ((f : Fibre) (x : ℕ) → takes f x g ≡ true → (is_usable g.role g.risks read f x ≡ true) ⊎ TookBefore legs g f x) →
    is_marked g ≡ false → LegFacts n next g → MayStand n next legs g
may-take n next read legs labels less g why plain facts = record {
  facts = facts;
  shares = λ f x m h apart there this that. elim (why f x this) [
    | inl usable ↦ read-shares read legs g f x m h less usable there that
    | inr was ↦ took-shares legs labels g f x m h was apart there that
  ];
  alone = λ f x m h apart there this that mark. absurd (cc (mark, plain));
}

-- A leg in place of its LSP's leg

module _ (n next : ℕ) (legs : List Leg) (part : LegPart n next legs) (v g : Leg) (facts : LegFacts n next g)
    (found : find_leg g.lsp legs ≡ Some v) (role : v.role ≡ g.role) (risks : v.risks ≡ g.risks)
    (takes_less : (f : Fibre) (x : ℕ) → takes f x g ≡ true → takes f x v ≡ true) where
  shared : (f : Fibre) (x : ℕ) (m : Lsp) (h : Leg) → same_lsp g.lsp m ≡ false → find_leg m legs ≡ Some h →
      takes f x g ≡ true → takes f x h ≡ true → MayShare g h
  shared f x m h apart there this that =
      took-shares legs part.labels g f x m h
      (record { leg = v; found = found; role = role; risks = risks; took = takes_less f x this }) apart there that

  -- it uses no more, and is marked only where that was
  pub may-keep : ((f : Fibre) (x : ℕ) → uses f x g ≡ true → uses f x v ≡ true) →
      (is_marked g ≡ true → is_marked v ≡ true) → MayStand n next legs g
  may-keep uses_less marked = record {
    facts = facts;
    shares = shared;
    alone = λ f x m h apart there this that mark_g mark_h.
        other g.lsp m ⊥ apart
        (part.marks f x g.lsp m v h found there (uses_less f x this) that (marked mark_g) mark_h);
  }

  -- it isn't contended among the legs that a rule read, of which those of other LSPs stand as they did
  pub may-arm : (read : List Leg) →
      ((m : Lsp) (h : Leg) → same_lsp g.lsp m ≡ false → find_leg m legs ≡ Some h → find_leg m read ≡ Some h) →
      is_contended read g ≡ false → MayStand n next legs g
  may-arm read stood free = record {
    facts = facts;
    shares = shared;
    alone = λ f x m h apart there this that mark_g mark_h.
        none-found (λ y. uses f x y && (is_marked y && not (same_lsp y.lsp g.lsp))) m read h
        (ap not (free-of read g f x free this)) (stood m h apart there)
        (rw (that, mark_h, differs m h apart there) refl);
  }
    where
      differs : (m : Lsp) (h : Leg) → same_lsp g.lsp m ≡ false → find_leg m legs ≡ Some h →
          same_lsp h.lsp g.lsp ≡ false
      differs m h apart there = go (same_lsp h.lsp g.lsp) refl
        where
          go : (b : Bool) → same_lsp h.lsp g.lsp ≡ b → b ≡ false
          go false e = refl
          go true e =
              other g.lsp m (true ≡ false) apart (sym (same_lsp-eq h.lsp g.lsp e) ∙ found-lsp m legs h there)
