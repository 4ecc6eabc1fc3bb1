-- Which legs concern one of the groups, and why no label of a backup that does is in use.
use Rattle.std.proofs.{Common.{◌≡◌, ℕ, Bool, true, false, not, List, [], ◌∷◌, refl, sym, ap, ◌∙◌, subst}, lemmas.Bool.{or_left, or_right}}
use Rattle.std.specs.{Prelude.{◌&&◌, Option, Some, None, IsTrue}, List.AllByRecursion}
use Rattle.ason_base.specs.{Lsps.same_lsp, declared.ids.Fibre.Fibre, declared.ids.Lsp.Lsp, declared.ids.NodeId.NodeId, declared.calls.Phase.Phase, declared.calls.Phase.TheVariants.Armed, declared.calls.Role.TheVariants.Back, declared.commands.Group.Group, declared.messages.Msg.Msg, declared.messages.Msg.TheVariants.{Path, Resv, PathTear, PathErr, Notify}, declared.tables.Leg.Leg}
use Rattle.ason_base.proofs.Bools.{and-left}
use Rattle.mesh_rules.specs.Legs.{closed, connected, find_leg, following, is_armed, is_asked, is_at, is_busy, is_busy_at, is_contended, is_marked, is_marking, is_over, is_work, reserved, reverse_of, sends_label, takes, uses}
use Rattle.mesh_rules.proofs.AnswerParts.{reserved-plain}
use Rattle.mesh_nodes.specs.Order.{LegsRise}
use Rattle.mesh_nodes.proofs.{LabelPlaces.is-at, LegList.{all-found, found-all, found-lsp, same_lsp-eq, same_lsp-refl}}
use Rattle.lsp_laws.proofs.{nodes.ClosedLegs.closed-marked, nodes.Facts.SharesAll, nodes.Sharing.back-of}
use Rattle.mesh_laws.proofs.alone.Groups.{LegConcernsGroups, has_one}

-- the leg, where it is a backup's, records one of the groups
abbrev pub RecordsGroup : List Group → Leg → Type 0
RecordsGroup gs b = b.role ≡ Back → has_one b.risks gs ≡ true

-- where the leg is a backup's and records one of the groups, no backup of another LSP does that uses a label of it
abbrev pub IsLegAlone : List Group → List Leg → Leg → Type 0
IsLegAlone gs legs b =
    (f : Fibre) (x : ℕ) (m : Lsp) (h : Leg) → same_lsp b.lsp m ≡ false → find_leg m legs ≡ Some h →
    uses f x b ≡ true → uses f x h ≡ true → b.role ≡ Back → h.role ≡ Back → has_one b.risks gs ≡ true →
    has_one h.risks gs ≡ true → ⊥

-- of the backups that use one label at most one records one of the groups
abbrev pub BackupsApart : List Group → List Leg → Type 0
BackupsApart gs legs = (l : Lsp) (b : Leg) → find_leg l legs ≡ Some b → IsLegAlone gs legs b

-- nor does another one record one of them that uses the label which a Resv is about to give; u is the node that it
-- comes from
abbrev pub MsgApart : List Group → List Leg → NodeId → Msg → Type 0
MsgApart gs legs u (Path l e k route set up r) = Unit {0}
MsgApart gs legs u (Resv l e k x) =
    (b : Leg) → find_leg l legs ≡ Some b → IsTrue (is_asked b.phase) → IsTrue (is_over (following b) u k) →
    IsLegAlone gs legs (connected b None x)
MsgApart gs legs u (PathTear l e k) = Unit {0}
MsgApart gs legs u (PathErr l e at gone code) = Unit {0}
MsgApart gs legs u (Notify l e at k code) = Unit {0}

-- a marked leg is a backup's
pub marked-back : (b : Leg) → is_marked b ≡ true → b.role ≡ Back
marked-back b mark = back-of b.role (and-left (not (is_work b.role)) _ mark)

module _ (gs : List Group) where
  -- a leg that no activation has passed concerns any group
  pub idle-concerns : (b : Leg) → is_marking b.phase ≡ false → LegConcernsGroups gs b
  idle-concerns b idle mark = absurd (never (not (is_work b.role)) (is_marking b.phase) idle mark)
    where
      never : (w m : Bool) → m ≡ false → (w && m) ≡ true → ⊥
      never w true e h = cc e
      never true false e h = cc h
      never false false e h = cc h

  -- a torn leg is marked only where it was
  pub closed-concerns : (b : Leg) → LegConcernsGroups gs b → LegConcernsGroups gs (closed b)
  closed-concerns b old mark = old (closed-marked b mark)

  -- a leg that gets its label isn't marked yet
  pub reserved-concerns : (b : Leg) → b.phase ≡ reserved b.role → LegConcernsGroups gs b
  reserved-concerns b is mark =
      let plain : (not (is_work b.role) && is_marking b.phase) ≡ false =
      ap (λ q. not (is_work b.role) && is_marking q) is ∙ reserved-plain b.role in
      absurd (cc (mark, plain))

  -- one that records one of the groups concerns them
  pub records-concerns : (b : Leg) → RecordsGroup gs b → LegConcernsGroups gs b
  records-concerns b records mark = records (marked-back b mark)

  -- a leg that is Armed records one of the groups
  pub armed-records : (b : Leg) → is_armed b.phase ≡ true → LegConcernsGroups gs b → RecordsGroup gs b
  armed-records b armed concerns back = concerns (rw back (go b.phase armed))
    where
      go : (f : Phase) → is_armed f ≡ true → is_marking f ≡ true
      go Armed e = refl
      go _ e = absurd (cc e)

  -- Contention

  -- Where a leg records one of the groups, and of the legs that use its labels no other does, none of them is marked.
  module _ (all : List Leg) (rise : LegsRise all) (concern : AllByRecursion (LegConcernsGroups gs) all) (b : Leg)
      (shares : SharesAll all b) (alone : IsLegAlone gs all b) (records : RecordsGroup gs b) where
    one : (f : Fibre) (x : ℕ) (h : Leg) → find_leg h.lsp all ≡ Some h → uses f x b ≡ true → uses f x h ≡ true →
        is_marked h ≡ true → same_lsp h.lsp b.lsp ≡ false → ⊥
    one f x h there this that mark differ =
        let apart : same_lsp b.lsp h.lsp ≡ false = flip (same_lsp b.lsp h.lsp) refl in
        let back = (shares f x h.lsp h apart there this that).backups.0 in
        let concerns = found-all (LegConcernsGroups gs) h.lsp all h there concern in
        alone f x h.lsp h apart there this that back (marked-back h mark) (records back) (concerns mark)
      where
        flip : (i : Bool) → same_lsp b.lsp h.lsp ≡ i → i ≡ false
        flip false e = refl
        flip true e =
            let same : b.lsp ≡ h.lsp = same_lsp-eq b.lsp h.lsp e in
            let test : same_lsp h.lsp b.lsp ≡ true = rw same (same_lsp-refl h.lsp) in
            absurd (cc (test, differ))

    not_this : (f : Fibre) (x : ℕ) (h : Leg) → find_leg h.lsp all ≡ Some h → uses f x b ≡ true → (i j k : Bool) →
        uses f x h ≡ i → is_marked h ≡ j → same_lsp h.lsp b.lsp ≡ k → (i && (j && not k)) ≡ false
    not_this f x h there this true true false p q r = absurd (one f x h there this p q r)
    not_this f x h there this true true true p q r = refl
    not_this f x h there this true false k p q r = refl
    not_this f x h there this false j k p q r = refl

    not_these : (f : Fibre) (x : ℕ) (legs : List Leg) → AllByRecursion (λ h. find_leg h.lsp all ≡ Some h) legs →
        uses f x b ≡ true → is_busy legs b.lsp f x ≡ false
    not_these f x [] found this = refl
    not_these f x (h ∷ legs) found this = rw (
      not_this f x h found.0 this (uses f x h) (is_marked h) (same_lsp h.lsp b.lsp) refl refl refl,
      not_these f x legs found.1 this,
    ) refl

    each-found : AllByRecursion (λ h. find_leg h.lsp all ≡ Some h) all
    each-found = all-found (λ h. find_leg h.lsp all ≡ Some h) all rise
        (λ l h found. subst (λ k. find_leg k all ≡ Some h) (sym (found-lsp l all h found)) found)

    free-at : (o : Option Fibre) (label : Option ℕ) →
        ((f : Fibre) (x : ℕ) → is_at o label f x ≡ true → uses f x b ≡ true) → is_busy_at all b.lsp o label ≡ false
    free-at None label used = refl
    free-at (Some f) None used = refl
    free-at (Some f) (Some x) used = not_these f x all each-found (used f x (is-at (Some f) (Some x) f x refl refl))

    -- so no label of it is in use
    pub not_contended : is_contended all b ≡ false
    not_contended = rw (
      free-at b.in_fibre b.in_label
          (λ f x on. or_left (takes f x b) (sends_label f x b) (or_left (is_at b.in_fibre b.in_label f x) _ on)),
      free-at (reverse_of b.out_fibre) b.back_in
          (λ f x on. or_left (takes f x b) (sends_label f x b) (or_right (is_at b.in_fibre b.in_label f x) _ on)),
      free-at b.out_fibre b.out_label
          (λ f x on. or_right (takes f x b) (sends_label f x b) (or_left (is_at b.out_fibre b.out_label f x) _ on)),
      free-at (reverse_of b.in_fibre) b.back_out
          (λ f x on. or_right (takes f x b) (sends_label f x b) (or_right (is_at b.out_fibre b.out_label f x) _ on)),
    ) refl
