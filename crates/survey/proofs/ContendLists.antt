-- The calls that meet on shared labels are those that would contend by the rows.
use Rattle.std.proofs.{Common.{◌≡◌, ℕ, Bool, true, false, cond, nat_eq, map, List, [], ◌∷◌, ◌++◌, refl, sym, ap, ◌∙◌, arith, append-nil}, lemmas.List.Concat.flat_map-append, lemmas.List.Elements.filter_agree}
use Rattle.std.specs.{Prelude.{◌&&◌, ◌||◌, filter, flat_map}, List.list_any}
use Rattle.ason_base.specs.{Network.{Network, is_distinct}, declared.calls.CallRow.CallRow, declared.calls.LegRow.LegRow, declared.commands.Group.Group, declared.ids.LinkId.LinkId, declared.ids.NodeId.NodeId, declared.network.LinkSpec.LinkSpec}
use Rattle.mesh_laws.specs.{Survey.{all_between, contends_between, contends_of, end_of, groups_of, hits, is_guarded_row, labels_at, may_turn_to, of_two, on_label, contends_over_fibre, over_link, takes_at}, declared.survey.Contend.Contend}
use Rattle.survey.specs.{declared.groups.GroupLinks.GroupLinks, declared.slots.Slot.Slot, declared.views.CallView.CallView, Groups.{is_hit, with_links}, Meetings.{all_meet, groups_meet, is_met, is_met_at_all, others_meet, slot_meet, two_meet}, Slots.{fibre_slots, is_user, link_slots, shared, slot_at, users_of}, Views.{is_guarded, is_on_label, is_on_link, passes, takes, view_of}}
use Rattle.survey.proofs.{HitLists.{guarded-is, hit-is, takes-is}, Joins.{filter-both, filter-map, flat-agree, flat-flat, flat-kept, flat-map}}

-- Each two of a list

-- what f gives of each two, the one before the other
abbrev pairs : {X Y : Type 0} → (X → X → List Y) → List X → List Y
pairs f [] = []
pairs f (x ∷ xs) = flat_map (f x) xs ++ pairs f xs

none-flat : {X Y : Type 0} (f : X → List Y) → ((x : X) → f x ≡ []) → (xs : List X) → flat_map f xs ≡ []
none-flat f none [] = refl
none-flat f none (x ∷ xs) = rw (none x) (none-flat f none xs)

pairs-kept : {X Y : Type 0} (f : X → X → List Y) (p : X → Bool) →
    ((x y : X) → p x ≡ false → f x y ≡ []) → ((x y : X) → p y ≡ false → f x y ≡ []) → (xs : List X) →
    pairs f (filter p xs) ≡ pairs f xs
pairs-kept f p first second [] = refl
pairs-kept {X} {Y} f p first second (x ∷ xs) = go (p x) refl (pairs-kept f p first second xs)
  where
    go : (b : Bool) → p x ≡ b → pairs f (filter p xs) ≡ pairs f xs →
        pairs f (cond b (x ∷ filter p xs) (filter p xs)) ≡ flat_map (f x) xs ++ pairs f xs
    go true e later = rw (flat-kept (f x) p (second x) xs) (ap (λ t. flat_map (f x) xs ++ t) later)
    go false e later = rw (none-flat (f x) (λ y. first x y e) xs) later

pairs-agree : {X Y Z : Type 0} (w : X → Y) (f : Y → Y → List Z) (g : X → X → List Z) →
    ((x y : X) → f (w x) (w y) ≡ g x y) → (xs : List X) → pairs f (map w xs) ≡ pairs g xs
pairs-agree w f g same [] = refl
pairs-agree w f g same (x ∷ xs) =
    rw (flat-map w (f (w x)) xs)
    (rw (flat-agree (λ y. f (w x) (w y)) (g x) (same x) xs)
    (ap (λ t. flat_map (g x) xs ++ t) (pairs-agree w f g same xs)))

-- Labels of which a group hits a call

none-kept : {X : Type 0} (p : X → Bool) (xs : List X) → list_any p xs ≡ false → filter p xs ≡ []
none-kept p [] e = refl
none-kept {X} p (x ∷ xs) e = go (p x) e (none-kept p xs)
  where
    go : (b : Bool) → (b || list_any p xs) ≡ false → (list_any p xs ≡ false → filter p xs ≡ []) →
        cond b (x ∷ filter p xs) (filter p xs) ≡ []
    go true e later = absurd (cc e)
    go false e later = later e

flat-chosen : {X Y : Type 0} (f : X → List Y) (p : X → Bool) (xs : List X) →
    flat_map (λ x. cond (p x) (f x) []) xs ≡ flat_map f (filter p xs)
flat-chosen f p [] = refl
flat-chosen {X} {Y} f p (x ∷ xs) = go (p x) (flat-chosen f p xs)
  where
    go : (b : Bool) → flat_map (λ y. cond (p y) (f y) []) xs ≡ flat_map f (filter p xs) →
        cond b (f x) [] ++ flat_map (λ y. cond (p y) (f y) []) xs ≡ flat_map f (cond b (x ∷ filter p xs) (filter p xs))
    go true later = ap (λ t. f x ++ t) later
    go false later = later

others-are : (g : Group) (h : GroupLinks) (s : Slot) (a : CallView) →
    others_meet g h s a
    ≡ flat_map (λ (b : CallView). two_meet (g, h.group) s a.call b.call) (filter (is_hit h) s.takers)
others-are g h s a = flat-chosen (λ (b : CallView). two_meet (g, h.group) s a.call b.call) (is_hit h) s.takers

unmet-first : (g h : GroupLinks) (s : Slot) → is_met g s ≡ false → slot_meet g h s ≡ []
unmet-first g h s e = ap (flat_map (others_meet g.group h s)) (none-kept (is_hit g) s.takers e)

unmet-second : (g h : GroupLinks) (s : Slot) → is_met h s ≡ false → slot_meet g h s ≡ []
unmet-second g h s e = none-flat (others_meet g.group h s)
    (λ a. others-are g.group h s a
    ∙ ap (flat_map (λ (b : CallView). two_meet (g.group, h.group) s a.call b.call)) (none-kept (is_hit h) s.takers e))
    (filter (is_hit g) s.takers)

none-any : {X Y : Type 0} (f : X → List Y) (p : X → Bool) → ((x : X) → p x ≡ false → f x ≡ []) → (xs : List X) →
    list_any p xs ≡ false → flat_map f xs ≡ []
none-any f p none xs e = sym (flat-kept f p none xs) ∙ ap (flat_map f) (none-kept p xs e)

all-pairs : (slots : List Slot) (groups : List GroupLinks) → all_meet slots groups ≡ pairs (groups_meet slots) groups
all-pairs slots [] = refl
all-pairs slots (g ∷ groups) =
    rw (flat-agree (groups_meet (filter (is_met g) slots) g) (groups_meet slots g)
    (λ h. flat-kept (slot_meet g h) (is_met g) (unmet-first g h) slots) groups)
    (ap (λ t. flat_map (groups_meet slots g) groups ++ t) (all-pairs slots groups))

between-pairs : (t : Network) (calls : List CallRow) (legs : List LegRow) (groups : List Group) →
    all_between t calls legs groups ≡ pairs (contends_between t calls legs) groups
between-pairs t calls legs [] = refl
between-pairs t calls legs (g ∷ groups) =
    ap (λ x. flat_map (contends_between t calls legs g) groups ++ x) (between-pairs t calls legs groups)

-- One label

and-used : (g u t : Bool) → (t ≡ true → u ≡ true) → ((g && u) && t) ≡ (g && t)
and-used false u t used = refl
and-used true u true used = rw (used refl) refl
and-used true true false used = refl
and-used true false false used = refl

label-used : (n : NodeId) (k : LinkId) (x : ℕ) (rows : List LegRow) → list_any (is_on_label n k x) rows ≡ true →
    list_any (is_on_link n k) rows ≡ true
label-used n k x [] e = e
label-used n k x (r ∷ rows) e = grind (arith, label-used n k x rows)

-- what meets on these takers
abbrev meet-of : Group → Group → LinkId → Bool → ℕ → (CallView → Bool) → (CallView → Bool) → List CallView →
    List Contend
meet-of g h k forward x p q takers =
    flat_map (λ (a : CallView). flat_map (λ (b : CallView). of_two g h k forward x a.call b.call) (filter q takers))
    (filter p takers)

no-two : (g h : Group) (k : LinkId) (forward : Bool) (x : ℕ) (a : CallRow) → of_two g h k forward x a a ≡ []
no-two g h k forward x a =
    let number : nat_eq a.call.0 a.call.0 ≡ true = grind arith in
    let ingress : nat_eq a.ingress.0 a.ingress.0 ≡ true = grind arith in
    rw number (rw ingress refl)

alone : (g h : Group) (k : LinkId) (forward : Bool) (x : ℕ) (p q : CallView → Bool) (v : CallView) →
    meet-of g h k forward x p q (v ∷ []) ≡ []
alone g h k forward x p q v = go (p v) (q v)
  where
    go : (b c : Bool) → flat_map (λ (a : CallView). flat_map (λ (b : CallView). of_two g h k forward x a.call b.call)
        (cond c (v ∷ []) [])) (cond b (v ∷ []) []) ≡ []
    go false c = refl
    go true false = refl
    go true true = rw (no-two g h k forward x v.call) refl

shared-meet : (g h : GroupLinks) (l : LinkSpec) (forward : Bool) (x : ℕ) (takers : List CallView) →
    flat_map (slot_meet g h) (shared (record { link = l.id; forward = forward }) x takers)
    ≡ meet-of g.group h.group l.id forward x (is_hit g) (is_hit h) takers
shared-meet g h l forward x [] = refl
shared-meet g h l forward x (v ∷ []) = sym (alone g.group h.group l.id forward x (is_hit g) (is_hit h) v)
shared-meet g h l forward x (v ∷ w ∷ takers) = append-nil _
    ∙ flat-agree _ _ (others-are g.group h (record {
      fibre = record { link = l.id; forward = forward };
      label = x;
      takers = v ∷ w ∷ takers;
    })) (filter (is_hit g) (v ∷ w ∷ takers))

module _ (t : Network) (calls : List CallRow) (legs : List LegRow)
    (once : is_distinct (map (λ (l : LinkSpec). l.id.0) t.links) ≡ true) where
  takers-are : (l : LinkSpec) (forward : Bool) (x : ℕ) →
      filter (takes (end_of l forward) l.id x) (users_of (map (view_of legs) calls) (end_of l forward) l.id)
      ≡ map (view_of legs) (filter (λ c. is_guarded_row legs c && takes_at legs (end_of l forward) l.id x c) calls)
  takers-are l forward x =
      filter-both (is_user (end_of l forward) l.id) (takes (end_of l forward) l.id x) (map (view_of legs) calls)
      ∙ filter-map (view_of legs) _ calls
      ∙ ap (map (view_of legs)) (filter_agree _ _ (λ c.
      and-used (is_guarded (view_of legs c)) (passes (end_of l forward) l.id (view_of legs c))
      (takes (end_of l forward) l.id x (view_of legs c))
      (label-used (end_of l forward) l.id x (view_of legs c).backup)
      ∙ ap (λ b. b && takes (end_of l forward) l.id x (view_of legs c)) (guarded-is legs c)
      ∙ ap (λ b. is_guarded_row legs c && b) (takes-is legs (end_of l forward) l.id x c)) calls)

  and-turn : (a b c : Bool) → ((a && c) && b) ≡ (a && (b && c))
  and-turn false b c = refl
  and-turn true true true = refl
  and-turn true true false = refl
  and-turn true false true = refl
  and-turn true false false = refl

  hit-takers : (g : Group) (n : NodeId) (k : LinkId) (x : ℕ) →
      filter (is_hit (with_links t.links g))
      (map (view_of legs) (filter (λ c. is_guarded_row legs c && takes_at legs n k x c) calls))
      ≡ map (view_of legs) (filter (may_turn_to t legs g n k x) calls)
  hit-takers g n k x =
      filter-map (view_of legs) (is_hit (with_links t.links g)) _
      ∙ ap (map (view_of legs)) (filter_agree _ (hits t legs g) (hit-is t legs g once) _
      ∙ filter-both _ (hits t legs g) calls
      ∙ filter_agree _ (may_turn_to t legs g n k x)
      (λ c. and-turn (is_guarded_row legs c) (hits t legs g c) (takes_at legs n k x c)) calls)

  label-is : (g h : Group) (l : LinkSpec) (forward : Bool) (x : ℕ) →
      flat_map (slot_meet (with_links t.links g) (with_links t.links h))
      (slot_at l forward (users_of (map (view_of legs) calls) (end_of l forward) l.id) x)
      ≡ on_label t calls legs g h l forward x
  label-is g h l forward x =
      shared-meet (with_links t.links g) (with_links t.links h) l forward x
      (filter (takes (end_of l forward) l.id x) (users_of (map (view_of legs) calls) (end_of l forward) l.id))
      ∙ ap (meet-of g h l.id forward x (is_hit (with_links t.links g)) (is_hit (with_links t.links h)))
      (takers-are l forward x)
      ∙ ap (λ xs. flat_map (λ (a : CallView). flat_map (λ (b : CallView). of_two g h l.id forward x a.call b.call)
      (filter (is_hit (with_links t.links h))
      (map (view_of legs)
      (filter (λ c. is_guarded_row legs c && takes_at legs (end_of l forward) l.id x c) calls)))) xs)
      (hit-takers g (end_of l forward) l.id x)
      ∙ ap (λ ys. flat_map (λ (a : CallView). flat_map (λ (b : CallView). of_two g h l.id forward x a.call b.call) ys)
      (map (view_of legs) (filter (may_turn_to t legs g (end_of l forward) l.id x) calls)))
      (hit-takers h (end_of l forward) l.id x)
      ∙ flat-map (view_of legs) _ (filter (may_turn_to t legs g (end_of l forward) l.id x) calls)
      ∙ flat-agree _ _ (λ a. flat-map (view_of legs) _ (filter (may_turn_to t legs h (end_of l forward) l.id x) calls))
      (filter (may_turn_to t legs g (end_of l forward) l.id x) calls)

  fibre-is : (g h : Group) (l : LinkSpec) (forward : Bool) →
      flat_map (slot_meet (with_links t.links g) (with_links t.links h))
      (fibre_slots legs (map (view_of legs) calls) l forward)
      ≡ contends_over_fibre t calls legs g h l forward
  fibre-is g h l forward =
      flat-flat _ _ (labels_at legs (end_of l forward) l.id)
      ∙ flat-agree _ _ (label-is g h l forward) (labels_at legs (end_of l forward) l.id)

  link-is : (g h : Group) (l : LinkSpec) →
      flat_map (slot_meet (with_links t.links g) (with_links t.links h)) (link_slots legs (map (view_of legs) calls) l)
      ≡ over_link t calls legs g h l
  link-is g h l =
      flat_map-append _ (fibre_slots legs (map (view_of legs) calls) l true)
      (fibre_slots legs (map (view_of legs) calls) l false)
      ∙ rw (fibre-is g h l true) (rw (fibre-is g h l false)
      (ap (λ x. contends_over_fibre t calls legs g h l true ++ x)
      (sym (append-nil (contends_over_fibre t calls legs g h l false)))))

  groups-are : (g h : Group) →
      groups_meet (flat_map (link_slots legs (map (view_of legs) calls)) t.links)
      (with_links t.links g) (with_links t.links h)
      ≡ contends_between t calls legs g h
  groups-are g h = flat-flat _ _ t.links ∙ flat-agree _ _ (link-is g h) t.links

  -- over all groups and shared labels
  pub contends-are :
      all_meet (flat_map (link_slots legs (map (view_of legs) calls)) t.links)
      (filter (is_met_at_all (flat_map (link_slots legs (map (view_of legs) calls)) t.links))
      (map (with_links t.links) (groups_of t)))
      ≡ contends_of t calls legs
  contends-are =
      let slots = flat_map (link_slots legs (map (view_of legs) calls)) t.links in
      all-pairs slots _
      ∙ pairs-kept (groups_meet slots) (is_met_at_all slots)
      (λ g h e. none-any (slot_meet g h) (is_met g) (unmet-first g h) slots e)
      (λ g h e. none-any (slot_meet g h) (is_met h) (unmet-second g h) slots e) _
      ∙ pairs-agree (with_links t.links) (groups_meet slots) (contends_between t calls legs) groups-are (groups_of t)
      ∙ sym (between-pairs t calls legs (groups_of t))
