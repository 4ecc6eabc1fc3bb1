-- What two legs over a hop tell of each other's labels: what the upstream leg has as label out, or is about to be
-- given, the downstream leg has in; and what that one sends back, or is about to be given, the upstream leg takes.
use Rattle.std.proofs.{Common.{◌≡◌, ℕ, Bool, true, false, cond, nat_eq, List, [], ◌∷◌, ◌++◌, refl, sym, ap, subst, ◌∙◌, arith, inl, inr}, lemmas.Bool.or_cases}
use Rattle.std.specs.Prelude.{◌⊎◌, ◌||◌, map, Option, Some, None}
use Rattle.ason_base.specs.{declared.ids.Fibre.Fibre, declared.ids.Lsp.Lsp, declared.messages.PathRole.PathRole, declared.messages.Msg.Msg, declared.messages.Msg.TheVariants.{Path, Resv, PathTear, PathErr, Notify}, declared.tables.Leg.Leg, Lsps.same_lsp}
use Rattle.ason_base.specs.declared.messages.PathRole.TheVariants as path
use Rattle.ason_base.proofs.Bools.{and-right}
use Rattle.mesh_rules.specs.Legs.{is_closing, is_label}
use Rattle.lsp_laws.specs.{HopLaw.lsp_of, HopShapes.{LegKind, AskedLeg, MsgKind, Removal, Shape, leg_kind, msg_kind, path_kind}}
use Rattle.lsp_laws.proofs.{hops.GoingUp.{AnswersUp, DownAsked, FirstPath, Gone, NoneUpstream, Stands, StillAsked, answers, plain-has_path}, hops.IdleHops.no_kinds, hops.Plans.Plan, hops.Purposes.{UpMsgFits, BackMeets, Each, HasUpstream, LabelsMeet, Purpose, Rest, UpFits, back_in_of, back_out_of, in_label_of, out_label_of, purpose_role}, hops.RowStates.is_reserved, hops.LegKinds.gone_none}
use Rattle.mesh_laws.specs.HeardLaw.{brings, heard, heard_one, lets_go}

-- Messages of one LSP

-- all are of this LSP
abbrev pub AllOf : Lsp → List Msg → Type 0
AllOf l [] = Unit {0}
AllOf l (m ∷ ms) = (same_lsp (lsp_of m) l ≡ true) × AllOf l ms

is-label : (o : Option ℕ) (x : ℕ) → is_label o x ≡ true → o ≡ Some x
is-label None x e = absurd (cc e)
is-label (Some y) x e = let is : y ≡ x = grind arith in ap Some is

-- what one message of the LSP leaves: it doesn't let go, and it brings the label or the LSP had it
pub one : (f : Fibre) (x : ℕ) (l : Lsp) (m : Msg) (b : Bool) → same_lsp (lsp_of m) l ≡ true →
    heard_one f x l m b ≡ true → (lets_go m ≡ false) × ((brings f x m ≡ true) ⊎ (b ≡ true))
one f x l m b own h =
    go (lets_go m) refl (subst (λ c. cond c (cond (lets_go m) false (brings f x m || b)) b ≡ true) own h)
  where
    go : (g : Bool) → lets_go m ≡ g → cond g false (brings f x m || b) ≡ true →
        (lets_go m ≡ false) × ((brings f x m ≡ true) ⊎ (b ≡ true))
    go true e h = absurd (cc h)
    go false e h = (e, or_cases (brings f x m) b h)

-- Down: all that is brought is u's back label in

down-brings : (f : Fibre) (x : ℕ) (b : Option ℕ) (m : Msg) → HasUpstream b m → brings f x m ≡ true → b ≡ Some x
down-brings f x b (Path l e k route set up r) is h =
    sym is ∙ is-label up x (and-right (nat_eq k.0 f.link.0) (is_label up x) h)
down-brings f x b (Resv l e k y) is h = absurd is
down-brings f x b (PathTear l e k) is h = absurd (cc h)
down-brings f x b (PathErr l e at gone code) is h = absurd (cc h)
down-brings f x b (Notify l e at k code) is h = absurd (cc h)

down-heard : (f : Fibre) (x : ℕ) (l : Lsp) (back : Option ℕ) (ms : List Msg) (b : Bool) → AllOf l ms →
    Each (HasUpstream back) ms → (b ≡ true → back ≡ Some x) → heard f x l ms b ≡ true → back ≡ Some x
down-heard f x l back [] b own each was h = was h
down-heard f x l back (m ∷ ms) b own each was h =
    down-heard f x l back ms (heard_one f x l m b) own.1 each.1 (λ may. now (one f x l m b own.0 may).1) h
  where
    now : (brings f x m ≡ true) ⊎ (b ≡ true) → back ≡ Some x
    now (inl brought) = down-brings f x back m each.0 brought
    now (inr had) = was had

-- Up: all that is brought is d's label in, while d has it

up-brings : (p : Plan) (i : ℕ) (f : Fibre) (x : ℕ) (u d : Option Leg) (m : Msg) → is_reserved (leg_kind d) ≡ true →
    UpMsgFits u d m → UpFits p i m → brings f x m ≡ true → in_label_of d ≡ Some x
up-brings p i f x u d (Path l e k route set up r) here fits goes h = absurd goes
up-brings p i f x u d (Resv l e k y) here fits goes h =
    let is : y ≡ x = (let test = and-right (nat_eq k.0 f.link.0) (nat_eq y x) h in grind arith) in
    (fits here).0 ∙ ap Some is
up-brings p i f x u d (PathTear l e k) here fits goes h = absurd (cc h)
up-brings p i f x u d (PathErr l e at gone code) here fits goes h = absurd (cc h)
up-brings p i f x u d (Notify l e at k code) here fits goes h = absurd (cc h)

up-heard : (p : Plan) (i : ℕ) (f : Fibre) (x : ℕ) (l : Lsp) (u d : Option Leg) (ms : List Msg) (b : Bool) →
    AllOf l ms → Each (UpFits p i) ms → is_reserved (leg_kind d) ≡ true → Each (UpMsgFits u d) ms →
    (b ≡ true → in_label_of d ≡ Some x) → heard f x l ms b ≡ true → in_label_of d ≡ Some x
up-heard p i f x l u d [] b own goes here each was h = was h
up-heard p i f x l u d (m ∷ ms) b own goes here each was h =
    up-heard p i f x l u d ms (heard_one f x l m b) own.1 goes.1 here each.1 (λ may. now (one f x l m b own.0 may).1) h
  where
    now : (brings f x m ≡ true) ⊎ (b ≡ true) → in_label_of d ≡ Some x
    now (inl brought) = up-brings p i f x u d m here each.0 goes.0 brought
    now (inr had) = was had

removal-lets : (m : Msg) → msg_kind m ≡ Removal → lets_go m ≡ true
removal-lets (Path l e k route set up r) is = absurd (never r is)
  where
    never : (r : PathRole) → path_kind r ≡ Removal → ⊥
    never (path.Work guard) e = cc e
    never (path.Back true work primary) e = cc e
    never (path.Back false work primary) e = cc e
removal-lets (Resv l e k y) is = absurd (cc is)
removal-lets (PathTear l e k) is = absurd (cc is)
removal-lets (PathErr l e at true code) is = refl
removal-lets (PathErr l e at false code) is = absurd (cc is)
removal-lets (Notify l e at k code) is = absurd (cc is)

-- after a message that lets go nothing is had
gone-heard : (f : Fibre) (x : ℕ) (l : Lsp) (ms : List Msg) (b : Bool) (first : List MsgKind) → AllOf l ms →
    map msg_kind ms ≡ first ++ Removal ∷ [] → heard f x l ms b ≡ true → ⊥
gone-heard f x l [] b [] own is h = cc is
gone-heard f x l [] b (k ∷ first) own is h = cc is
gone-heard f x l (m ∷ ms) b [] own is h =
    let kind : msg_kind m ≡ Removal = cc is in
    let last : map msg_kind ms ≡ [] = cc is in
    let none : ms ≡ [] = no_kinds ms last in
    let lets = removal-lets m kind in
    let alone : heard_one f x l m b ≡ true = subst (λ ns. heard f x l ns (heard_one f x l m b) ≡ true) none h in
    let stays = (one f x l m b own.0 alone).0 in cc (lets, stays)
gone-heard f x l (m ∷ ms) b (k ∷ first) own is h =
    gone-heard f x l ms (heard_one f x l m b) first own.1
    (let later : map msg_kind ms ≡ first ++ Removal ∷ [] = cc is in later) h

-- The hop

-- What u sends on, or is about to be given by the messages that come up, is d's label in. Asked legs have no label out,
-- and d has a label in where it is Held, Armed or Live.
pub out-is-in : (q : Purpose) (p : Plan) (i : ℕ) (u d : Option Leg) (down up : List Msg) (f : Fibre) (x : ℕ) (l : Lsp)
    (b : Bool) → Shape (purpose_role q) (leg_kind u) (leg_kind d) (map msg_kind down) (map msg_kind up) →
    Rest q p i u d down up → AllOf l up → (leg_kind u ≡ AskedLeg → out_label_of u ≡ None) →
    (is_reserved (leg_kind d) ≡ true → (y : ℕ) × (in_label_of d ≡ Some y)) →
    (b ≡ true → out_label_of u ≡ Some x) → heard f x l up b ≡ true → in_label_of d ≡ Some x
out-is-in q p i u d down up f x l b shape rest own asked has was h =
    go _ _ _ _ refl refl refl refl
    (answers (purpose_role q) (leg_kind u) (leg_kind d) (map msg_kind down) (map msg_kind up) shape)
  where
    -- with nothing under way
    bare : map msg_kind up ≡ [] → out_label_of u ≡ None → in_label_of d ≡ Some x
    bare e out =
        let empty = no_kinds up e in
        let had : b ≡ true = subst (λ ns. heard f x l ns b ≡ true) empty h in
        let is = was had in absurd (cc (out, is))

    meets : (y : ℕ) → in_label_of d ≡ Some y → b ≡ true → in_label_of d ≡ Some x
    meets y is had =
        let same : y ≡ x = sym (subst (λ o. LabelsMeet o (Some y)) (was had)
        (subst (λ o. LabelsMeet (out_label_of u) o) is rest.labels)) in is ∙ ap Some same

    go : (a c : LegKind) (ds us : List MsgKind) → leg_kind u ≡ a → leg_kind d ≡ c → map msg_kind down ≡ ds →
        map msg_kind up ≡ us → AnswersUp a c ds us → in_label_of d ≡ Some x
    go _ c ds _ at_u at_d is_d is_u NoneUpstream = bare is_u (ap out_label_of (gone_none u at_u))
    go _ c ds _ at_u at_d is_d is_u StillAsked = bare is_u (asked at_u)
    go a _ _ _ at_u at_d is_d is_u FirstPath =
        bare is_u (rest.bare (inl (at_d, plain-has_path down _ is_d)))
    go a _ ds _ at_u at_d is_d is_u DownAsked = bare is_u (rest.bare (inr at_d))
    go a c ds us at_u at_d is_d is_u (Stands here) =
        let stands : is_reserved (leg_kind d) ≡ true = rw at_d here in
        let label = has stands in
        up-heard p i f x l u d up b own rest.going_up stands rest.answers (meets label.0 label.1) h
    go a c ds us at_u at_d is_d is_u (Gone first e) = absurd (gone-heard f x l up b first own (is_u ∙ e) h)

-- What d sends back, or is about to be given by the Paths that come down, is u's back label in. A torn d sends nothing
-- back.
pub back-is-back : (q : Purpose) (p : Plan) (i : ℕ) (u d : Option Leg) (down up : List Msg) (f : Fibre) (x : ℕ)
    (l : Lsp) (b : Bool) → Rest q p i u d down up → AllOf l down →
    ((h : Leg) → d ≡ Some h → is_closing h.phase ≡ true → h.back_out ≡ None) →
    (b ≡ true → back_out_of d ≡ Some x) → heard f x l down b ≡ true → back_in_of u ≡ Some x
back-is-back q p i u d down up f x l b rest own torn was h =
    down-heard f x l (back_in_of u) down b own rest.upstream (λ had. now d (was had) rest.back torn) h
  where
    now : (d : Option Leg) → back_out_of d ≡ Some x → BackMeets u d →
        ((h : Leg) → d ≡ Some h → is_closing h.phase ≡ true → h.back_out ≡ None) → back_in_of u ≡ Some x
    now None e meets torn = absurd (cc e)
    now (Some g) e meets torn = go (is_closing g.phase) refl
      where
        go : (c : Bool) → is_closing g.phase ≡ c → back_in_of u ≡ Some x
        go true closed = let none = torn g refl closed in absurd (cc (none, e))
        go false stands = sym (meets stands) ∙ e
