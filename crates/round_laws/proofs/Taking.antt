-- What a node takes in a turn: it is delivered at once, so its hop hands up what it does of it.
use Rattle.std.proofs.Common.{◌⊎◌, inl, inr, ◌≡◌, ◌≤◌, ℕ, Bool, true, false, cond, nat_eq, List, [], ◌∷◌, ◌++◌, map, refl, sym, ap, ◌∙◌, subst, append-nil, arith}
use Rattle.std.specs.{Prelude.{Option, Some, None}, Option.option_to_list}
use Rattle.ason_base.specs.{declared.ids.NodeId.NodeId, declared.commands.Disturb.Disturb, declared.commands.DisturbKind.DisturbKind, declared.commands.DisturbKind.TheVariants.{Lose, Repeat, Hold}, Network.Network}
use Rattle.ason_base.proofs.Numbers.{number-flip}
use Rattle.flood.specs.declared.frames.Content.{Content}
use Rattle.world_rules.specs.Worlds.{World, numbered_at, world_start}
use Rattle.world_merge.specs.{Deeds.{Deed, Took, alone, alone_from, sent_by, upto}, Histories.{AreGenuine, Histories, IsGenuine}}
use Rattle.world_merge.proofs.{Growing.{Grows, deeds-grow}, Splitting.{AreDeedsWithin, alone-more, within}, Sendings.numbered_more}
use Rattle.round_rules.specs.{Doings.{Did, Doing, deeds_in}, Held.HeldFrame, Lines.says, Records.{Record, deeds_at}, Rings.got_from, Takings.{AreDeliveries, AreTakings, IsTaking, Taking, all_doings, doings_of, IsDelivered}, Turns.{AreDelivered, AreHandled, IsTick, IsTurnOf}}
use Rattle.round_rules.proofs.{Desks.deeds-more, Numbers.got-append}
use Rattle.round_laws.specs.Rings.{channel_of, climb, climb_one, contents_of}
use Rattle.round_laws.proofs.{Climbing.{climb-append, climbs_all, contents-append, one_more}, Hearing.{heard-append, heard_from}}

-- Which frames are taken

none_ticks : (u : NodeId) (tick : Bool) (ds : List Doing) → IsTick tick ds → got_from u ds ≡ []
none_ticks u true ds is = ap (got_from u) is.1
none_ticks u false ds is = ap (got_from u) is

none_dues : (u : NodeId) (hs : List HeldFrame) (ds : List Doing) → AreDelivered hs ds → got_from u ds ≡ []
none_dues u [] ds is = ap (got_from u) is
none_dues u (h ∷ hs) ds is = ap (got_from u) is.3 ∙ none_dues u hs is.2 is.4

none_items : (u : NodeId) (ds : List Doing) → AreHandled ds → got_from u ds ≡ []
none_items u [] is = refl
none_items u (d ∷ ds) is = ap (λ x. got_from u (x ∷ ds)) is.0.1 ∙ none_items u ds is.1

none_did : (u : NodeId) (f : ℕ → Deed) (ss : List ℕ) → got_from u (map (λ s. Did (f s)) ss) ≡ []
none_did u f [] = refl
none_did u f (s ∷ ss) = none_did u f ss

-- What they bear

genuine_left : (t : Network) (hists : Histories) (n : ℕ) (ds es : List Deed) → AreGenuine t hists n (ds ++ es) →
    AreGenuine t hists n ds
genuine_left t hists n [] es all = tt
genuine_left t hists n (d ∷ ds) es all = (all.0, genuine_left t hists n ds es all.1)

-- what is genuine of all is so of the later ones
pub genuine_right : (t : Network) (hists : Histories) (n : ℕ) (ds es : List Deed) → AreGenuine t hists n (ds ++ es) →
    AreGenuine t hists n es
genuine_right t hists n [] es all = all
genuine_right t hists n (d ∷ ds) es all = genuine_right t hists n ds es all.1

-- a frame that was taken stands on its channel
bears : (t : Network) (hists : Histories) (n s : ℕ) (u : NodeId) (k : ℕ) (x : Content) →
    IsGenuine t hists n (Took s u k x) → numbered_at (sent_by t u (hists u.0) n) k ≡ Some x
bears t hists n s u k x real =
    ap (λ cs. numbered_at cs k) grown ∙ numbered_more (sent_by t u (upto real.0 (hists u.0)) n) more.more k x real.2
  where
    inside : AreDeedsWithin real.0 (hists u.0) []
    inside = within real.0 (hists u.0) [] tt

    whole : hists u.0 ≡ upto real.0 (hists u.0) ++ inside.rest
    whole = inside.whole ∙ ap (λ ds. upto real.0 ds ++ inside.rest) (append-nil (hists u.0))

    more : Grows (sent_by t u (upto real.0 (hists u.0)) n)
        ((alone_from t u (alone t u (upto real.0 (hists u.0))) inside.rest).channels u.0 n)
    more = deeds-grow t u (alone t u (upto real.0 (hists u.0))) inside.rest u.0 n

    grown : sent_by t u (hists u.0) n ≡ sent_by t u (upto real.0 (hists u.0)) n ++ more.more
    grown =
        ap (λ ds. (alone t u ds).channels u.0 n) whole
        ∙ ap (λ (v : World). v.channels u.0 n) (alone-more t u (world_start t) (upto real.0 (hists u.0)) inside.rest)
        ∙ more.whole

-- One taking

some_stamp : (o : Option DisturbKind) (stamps : List ℕ) → IsDelivered o → AreDeliveries o stamps →
    (s : ℕ) × (rest : List ℕ) × (stamps ≡ s ∷ rest)
some_stamp None stamps may is = (is.0, [], is.1)
some_stamp (Some Repeat) stamps may is = (is.0, is.1 ∷ [], is.2)
some_stamp (Some Lose) stamps may is = absurd may
some_stamp (Some Hold) stamps may is = absurd may

below : (h i : ℕ) (xs : List Content) → h ≤ i → h ≤ climb i xs
below h i xs le = omega (arith, le, climbs_all i xs)

-- from this number on
abbrev Up : Network → Record → NodeId → NodeId → ℕ → List Doing → Type 0
Up t after u n b ds =
    (h g : ℕ) → b ≤ h → h ≤ g →
    climb h (contents_of (channel_of t after u n) (got_from u ds)) ≤ climb g (heard_from u.0 (deeds_in ds))

-- the frame is delivered, or is no next message from this number on
abbrev MayBe : Network → Record → List Disturb → NodeId → NodeId → ℕ → ℕ → Type 0
MayBe t after lines u n b k =
    IsDelivered (says lines u n k) ⊎ ((x : Content) → numbered_at (channel_of t after u n) k ≡ Some x → (h : ℕ) →
    b ≤ h → climb_one h x ≡ h)

one_taking : (t : Network) (after : Record) (lines : List Disturb) (u n : NodeId) (b : ℕ) (g : Taking) →
    IsTaking lines n g → MayBe t after lines u n b g.number →
    AreGenuine t (deeds_at after) n.0 (deeds_in (doings_of g)) → Up t after u n b (doings_of g)
one_taking t after lines u n b g is may real h i base le = go (nat_eq g.from.0 u.0) refl
  where
    cs : List Content
    cs = channel_of t after u n

    dids : List ℕ → List Doing
    dids stamps = map (λ s. Did (Took s g.from g.number g.content)) stamps

    none : (stamps : List ℕ) → got_from u (dids stamps) ≡ []
    none stamps = none_did u (λ s. Took s g.from g.number g.content) stamps

    heard : List Content
    heard = heard_from u.0 (deeds_in (dids g.stamps))

    delivered : nat_eq g.from.0 u.0 ≡ true → g.from ≡ u → (s : ℕ) (rest : List ℕ) → g.stamps ≡ s ∷ rest →
        climb h (contents_of cs (g.number ∷ got_from u (dids g.stamps))) ≤ climb i heard
    delivered e node s rest are =
        let real' : AreGenuine t (deeds_at after) n.0 (deeds_in (dids (s ∷ rest))) =
        subst (λ ss. AreGenuine t (deeds_at after) n.0 (deeds_in (dids ss))) are real in
        let it : numbered_at cs g.number ≡ Some g.content =
        subst (λ v. numbered_at (channel_of t after v n) g.number ≡ Some g.content) node
        (bears t (deeds_at after) n.0 s g.from g.number g.content real'.0) in
        let got : contents_of cs (g.number ∷ got_from u (dids g.stamps)) ≡ g.content ∷ [] =
        ap (λ ks. option_to_list (numbered_at cs g.number) ++ contents_of cs ks) (none g.stamps)
        ∙ ap (λ o. option_to_list o ++ []) it in
        let heard_is : heard ≡ g.content ∷ heard_from u.0 (deeds_in (dids rest)) =
        ap (λ ss. heard_from u.0 (deeds_in (dids ss))) are
        ∙ ap (λ b. cond b (g.content ∷ []) [] ++ heard_from u.0 (deeds_in (dids rest)))
        (number-flip g.from.0 u.0 true e) in
        let low : climb h (g.content ∷ []) ≤ climb i (g.content ∷ heard_from u.0 (deeds_in (dids rest))) =
        below (climb_one h g.content) (climb_one i g.content) (heard_from u.0 (deeds_in (dids rest)))
        (one_more h i g.content le) in
        subst (λ xs. climb h xs ≤ climb i heard) (sym got)
        (subst (λ xs. climb h (g.content ∷ []) ≤ climb i xs) (sym heard_is) low)

    old : ((x : Content) → numbered_at cs g.number ≡ Some x → (h : ℕ) → b ≤ h → climb_one h x ≡ h) →
        climb h (contents_of cs (g.number ∷ got_from u (dids g.stamps))) ≤ climb i heard
    old stale =
        subst (λ ks. climb h (option_to_list (numbered_at cs g.number) ++ contents_of cs ks) ≤ climb i heard)
        (sym (none g.stamps)) (by_content (numbered_at cs g.number) refl)
      where
        by_content : (o : Option Content) → numbered_at cs g.number ≡ o → climb h (option_to_list o ++ []) ≤ climb i heard
        by_content None is = below h i heard le
        by_content (Some x) is =
            subst (λ j. j ≤ climb i heard) (sym (stale x is h base)) (below h i heard le)

    go : (c : Bool) → nat_eq g.from.0 u.0 ≡ c →
        climb h (contents_of cs (cond c (g.number ∷ got_from u (dids g.stamps)) (got_from u (dids g.stamps)))) ≤
        climb i heard
    go true e =
        let same : g.from.0 ≡ u.0 = grind (arith, e) in
        let node : g.from ≡ u = (λ j. record { 0 = same j }) in
        elim may [
          | inl d ↦
              let some = some_stamp g.says g.stamps (subst IsDelivered
              (ap (λ v. says lines v n g.number) (sym node) ∙ sym is.says) d) is.deliveries in
              delivered e node some.0 some.1 some.2
          | inr stale ↦ old stale
        ]
    go false e =
        subst (λ ks. climb h (contents_of cs ks) ≤ climb i heard) (sym (none g.stamps)) (below h i heard le)

-- More doings

up_then : (t : Network) (after : Record) (u n : NodeId) (b : ℕ) (ds es : List Doing) → Up t after u n b ds →
    Up t after u n b es → Up t after u n b (ds ++ es)
up_then t after u n b ds es f g h i base le =
    let cs : List Content = channel_of t after u n in
    let got : contents_of cs (got_from u (ds ++ es)) ≡ contents_of cs (got_from u ds) ++ contents_of cs (got_from u es) =
    ap (contents_of cs) (got-append u ds es) ∙ contents-append cs (got_from u ds) (got_from u es) in
    let heard : heard_from u.0 (deeds_in (ds ++ es)) ≡ heard_from u.0 (deeds_in ds) ++ heard_from u.0 (deeds_in es) =
    ap (heard_from u.0) (deeds-more ds es) ∙ heard-append u.0 (deeds_in ds) (deeds_in es) in
    let low = g (climb h (contents_of cs (got_from u ds))) (climb i (heard_from u.0 (deeds_in ds)))
    (below b h (contents_of cs (got_from u ds)) base) (f h i base le) in
    less _ _ _ _ low
    (ap (climb h) got ∙ climb-append h (contents_of cs (got_from u ds)) (contents_of cs (got_from u es)))
    (ap (climb i) heard ∙ climb-append i (heard_from u.0 (deeds_in ds)) (heard_from u.0 (deeds_in es)))
  where
    less : (a b c d : ℕ) → a ≤ b → c ≡ a → d ≡ b → c ≤ d
    less a b c d le e f = omega (arith, le, e, f)

-- where none is taken
up_none : (t : Network) (after : Record) (u n : NodeId) (b : ℕ) (ds : List Doing) → got_from u ds ≡ [] →
    Up t after u n b ds
up_none t after u n b ds none h i base le =
    subst (λ ks. climb h (contents_of (channel_of t after u n) ks) ≤ climb i (heard_from u.0 (deeds_in ds))) (sym none)
    (omega (arith, le, climbs_all i (heard_from u.0 (deeds_in ds))))

all_takings : (t : Network) (after : Record) (lines : List Disturb) (u n : NodeId) (b : ℕ) (gs : List Taking) →
    AreTakings lines n gs → ((k : ℕ) → MayBe t after lines u n b k) →
    AreGenuine t (deeds_at after) n.0 (deeds_in (all_doings gs)) → Up t after u n b (all_doings gs)
all_takings t after lines u n b [] are may real = λ h i base le. le
all_takings t after lines u n b (g ∷ gs) are may real =
    let split : AreGenuine t (deeds_at after) n.0 (deeds_in (doings_of g) ++ deeds_in (all_doings gs)) =
    subst (AreGenuine t (deeds_at after) n.0) (deeds-more (doings_of g) (all_doings gs)) real in
    up_then t after u n b (doings_of g) (all_doings gs)
    (one_taking t after lines u n b g are.0 (may g.number)
    (genuine_left t (deeds_at after) n.0 (deeds_in (doings_of g)) (deeds_in (all_doings gs)) split))
    (all_takings t after lines u n b gs are.1 may
    (genuine_right t (deeds_at after) n.0 (deeds_in (doings_of g)) (deeds_in (all_doings gs)) split))

-- a turn
pub turn_up : (t : Network) (after : Record) (lines : List Disturb) (u n : NodeId) (b : ℕ) (tick : Bool)
    (before added : List Doing) → IsTurnOf t lines n tick before added →
    ((k : ℕ) → MayBe t after lines u n b k) →
    AreGenuine t (deeds_at after) n.0 (deeds_in added) → Up t after u n b added
turn_up t after lines u n b tick before added is may real =
    subst (Up t after u n b) (sym is.all)
    (up_then t after u n b is.ticks (is.dues ++ (is.items ++ all_doings is.takings))
    (up_none t after u n b is.ticks (none_ticks u tick is.ticks is.is_tick))
    (up_then t after u n b is.dues (is.items ++ all_doings is.takings)
    (up_none t after u n b is.dues (none_dues u _ is.dues is.are_due))
    (up_then t after u n b is.items (all_doings is.takings)
    (up_none t after u n b is.items (none_items u is.items is.handled))
    (all_takings t after lines u n b is.takings is.are_takings may last))))
  where
    all : AreGenuine t (deeds_at after) n.0 (deeds_in (is.ticks ++ (is.dues ++ (is.items ++ all_doings is.takings))))
    all = subst (λ ds. AreGenuine t (deeds_at after) n.0 (deeds_in ds)) is.all real

    right : (ds es : List Doing) → AreGenuine t (deeds_at after) n.0 (deeds_in (ds ++ es)) →
        AreGenuine t (deeds_at after) n.0 (deeds_in es)
    right ds es are =
        genuine_right t (deeds_at after) n.0 (deeds_in ds) (deeds_in es)
        (subst (AreGenuine t (deeds_at after) n.0) (deeds-more ds es) are)

    last : AreGenuine t (deeds_at after) n.0 (deeds_in (all_doings is.takings))
    last =
        right is.items (all_doings is.takings)
        (right is.dues (is.items ++ all_doings is.takings)
        (right is.ticks (is.dues ++ (is.items ++ all_doings is.takings)) all))
