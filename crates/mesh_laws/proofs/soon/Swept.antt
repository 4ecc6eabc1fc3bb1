-- What stands in a list stays there until it is taken, and in a sweep it is taken; so it is with what is on a desk.
use Rattle.std.proofs.Common.{append_assoc, ◌≡◌, ◌≤◌, ◌<◌, ℕ, suc, Bool, true, false, cond, nat_eq, List, [], ◌∷◌, ◌++◌, drop, length, refl, sym, ap, subst, arith, append-nil}
use Rattle.std.specs.Prelude.{◌&&◌}
use Rattle.ason_base.specs.{Network.{Network, find_link}, declared.commands.Command.Command, declared.commands.Command.TheVariants.{Setup, Release, Protect, Retry, Revert, Fail, Repair}, declared.commands.DeskItem.DeskItem, declared.messages.Msg.Msg}
use Rattle.mesh_rules.specs.{declared.events.MeshEvent.MeshEvent, declared.events.MeshEvent.TheVariants.{Take, Desk, Tick, Learn, Post}, Changes.Answer, Events.{after, on_first, on_first_item, posted, step}, Learnt.on_link, LocalNodes.local_node, Waits.on_tick, Machine.{Mesh, commit, sent_to, without_first, without_item}}
use Rattle.mesh_laws.specs.Sweeps.{handled_at, handles_one, taken_count, takes_one}

-- Lists

-- one list is what is left of the other without its first k members, with more behind it
pub record MovesOn {X : Type 0} (k : ℕ) (old new : List X) : Type 0 where
  pub more : List X
  pub all : new ≡ drop k old ++ more

moves-same : {X : Type 0} (xs : List X) → MovesOn 0 xs xs
moves-same xs = record { more = []; all = sym (append-nil xs) }

-- One event: the messages

-- what an answer sends is put behind
commit-mail : (s : Mesh) (n : ℕ) (a : Answer) (u d : ℕ) → MovesOn 0 (s.mail u d) ((commit s n a).mail u d)
commit-mail s n a u d = go (nat_eq u n)
  where
    go : (b : Bool) → MovesOn 0 (s.mail u d) (cond b (s.mail u d ++ sent_to d a.sent) (s.mail u d))
    go true = record { more = sent_to d a.sent; all = refl }
    go false = moves-same (s.mail u d)

posted-mail : (t : Network) (s : Mesh) (c : Command) (u d : ℕ) → MovesOn 0 (s.mail u d) ((posted t s c).mail u d)
posted-mail t s (Setup n from to protected both via backup) u d = moves-same (s.mail u d)
posted-mail t s (Release n from) u d = moves-same (s.mail u d)
posted-mail t s (Protect n from) u d = moves-same (s.mail u d)
posted-mail t s (Retry n from) u d = moves-same (s.mail u d)
posted-mail t s (Revert n from) u d = moves-same (s.mail u d)
posted-mail t s (Fail g) u d = moves-same (s.mail u d)
posted-mail t s (Repair g) u d = moves-same (s.mail u d)

first-mail : (s : Mesh) (a b : ℕ) (n : ℕ) (x : Answer) (u d : ℕ) →
    MovesOn (cond (nat_eq a u && nat_eq b d) 1 0) (s.mail u d) ((commit (without_first s a b) n x).mail u d)
first-mail s a b n x u d =
    go (nat_eq a u && nat_eq b d) (nat_eq u a && nat_eq d b) same (commit-mail (without_first s a b) n x u d)
  where
    same : (nat_eq u a && nat_eq d b) ≡ (nat_eq a u && nat_eq b d)
    same = let x : nat_eq u a ≡ nat_eq a u = grind arith in let y : nat_eq d b ≡ nat_eq b d = grind arith in rw (x, y) refl

    go : (p q : Bool) → q ≡ p →
        MovesOn 0 (cond q (drop 1 (s.mail u d)) (s.mail u d)) ((commit (without_first s a b) n x).mail u d) →
        MovesOn (cond p 1 0) (s.mail u d) ((commit (without_first s a b) n x).mail u d)
    go true true e moved = record { more = moved.more; all = moved.all }
    go true false e moved = absurd (cc e)
    go false true e moved = absurd (cc e)
    go false false e moved = record { more = moved.more; all = moved.all }

-- Over one event a list of messages loses its first one just where that is taken, and more may come behind.
mail-moves : (t : Network) (s : Mesh) (e : MeshEvent) (u d : ℕ) →
    MovesOn (takes_one u d e) (s.mail u d) ((step t s e).mail u d)
mail-moves t s (Take b a) u d = first-mail s a.0 b.0 b.0 (on_first (local_node t b) (s.nodes b.0) a (s.mail a.0 b.0)) u d
mail-moves t s (Desk n) u d = commit-mail (without_item s n.0) n.0 (on_first_item (local_node t n) (s.nodes n.0) (s.desks n.0)) u d
mail-moves t s (Tick n) u d = commit-mail s n.0 (on_tick (local_node t n) (s.nodes n.0)) u d
mail-moves t s (Learn n k) u d = commit-mail s n.0 (on_link (local_node t n) (s.nodes n.0) (find_link t k)) u d
mail-moves t s (Post c) u d = posted-mail t s c u d

-- One event: desks

item-desk : (t : Network) (s : Mesh) (m : ℕ) (item : DeskItem) (n : ℕ) →
    MovesOn 0 (s.desks n) (cond (nat_eq n m) (s.desks n ++ item ∷ []) (s.desks n))
item-desk t s m item n = go (nat_eq n m)
  where
    go : (b : Bool) → MovesOn 0 (s.desks n) (cond b (s.desks n ++ item ∷ []) (s.desks n))
    go true = record { more = item ∷ []; all = refl }
    go false = moves-same (s.desks n)

posted-desk : (t : Network) (s : Mesh) (c : Command) (n : ℕ) → MovesOn 0 (s.desks n) ((posted t s c).desks n)
posted-desk t s (Setup k from to protected both via backup) n = item-desk t s from.0 _ n
posted-desk t s (Release k from) n = item-desk t s from.0 _ n
posted-desk t s (Protect k from) n = item-desk t s from.0 _ n
posted-desk t s (Retry k from) n = item-desk t s from.0 _ n
posted-desk t s (Revert k from) n = item-desk t s from.0 _ n
posted-desk t s (Fail g) n = record { more = _; all = refl }
posted-desk t s (Repair g) n = record { more = _; all = refl }

first-desk : (s : Mesh) (m n : ℕ) →
    MovesOn (cond (nat_eq m n) 1 0) (s.desks n) (cond (nat_eq n m) (drop 1 (s.desks n)) (s.desks n))
first-desk s m n = go (nat_eq m n) (nat_eq n m) (let x : nat_eq n m ≡ nat_eq m n = grind arith in x)
  where
    go : (p q : Bool) → q ≡ p → MovesOn (cond p 1 0) (s.desks n) (cond q (drop 1 (s.desks n)) (s.desks n))
    go true true e = record { more = []; all = sym (append-nil (drop 1 (s.desks n))) }
    go true false e = absurd (cc e)
    go false true e = absurd (cc e)
    go false false e = moves-same (s.desks n)

-- Over one event a desk loses its first item just where that is handled, and more may come behind.
desk-moves : (t : Network) (s : Mesh) (e : MeshEvent) (n : ℕ) →
    MovesOn (handles_one n e) (s.desks n) ((step t s e).desks n)
desk-moves t s (Take b a) n = moves-same (s.desks n)
desk-moves t s (Desk m) n = first-desk s m.0 n
desk-moves t s (Tick m) n = moves-same (s.desks n)
desk-moves t s (Learn m k) n = moves-same (s.desks n)
desk-moves t s (Post c) n = posted-desk t s c n

-- Along events

-- x stands in the list behind these
pub record StandsIn {X : Type 0} (xs : List X) (x : X) (before : List X) : Type 0 where
  pub later : List X
  pub all : xs ≡ before ++ x ∷ later

-- over one event x is the first and goes, or it stays
pub data Turn {X : Type 0} (k : ℕ) (ys : List X) (x : X) (before : List X) : Type 0 where
  -- it is the first one, and is taken
  Goes : k ≡ 1 → before ≡ [] → Turn k ys x before
  -- it moves up by one
  MovesUp : (c : X) (cs : List X) → before ≡ c ∷ cs → k ≡ 1 → StandsIn ys x cs → Turn k ys x before
  -- it stays where it was
  Keeps : k ≡ 0 → StandsIn ys x before → Turn k ys x before

-- what stood behind these, and still does where none was taken
still-in : {X : Type 0} (x : X) (before later more : List X) → StandsIn ((before ++ x ∷ later) ++ more) x before
still-in x before later more = record { later = later ++ more; all = append_assoc before (x ∷ later) more }

turned : {X : Type 0} (k : ℕ) (b : Bool) → k ≡ cond b 1 0 → (xs ys : List X) (x : X) (before later more : List X) →
    xs ≡ before ++ x ∷ later → ys ≡ drop k xs ++ more → Turn k ys x before
turned k false is xs ys x before later more all new =
    Keeps is (subst (λ zs. StandsIn zs x before) (sym (rw (is, all) at new)) (still-in x before later more))
turned k true is xs ys x [] later more all new = Goes is refl
turned k true is xs ys x (c ∷ cs) later more all new =
    MovesUp c cs refl is (subst (λ zs. StandsIn zs x cs) (sym (rw (is, all) at new)) (still-in x cs later more))

takes-bool : (u d : ℕ) (e : MeshEvent) → (b : Bool) × (takes_one u d e ≡ cond b 1 0)
takes-bool u d (Take b a) = (nat_eq a.0 u && nat_eq b.0 d, refl)
takes-bool u d (Desk n) = (false, refl)
takes-bool u d (Tick n) = (false, refl)
takes-bool u d (Learn n k) = (false, refl)
takes-bool u d (Post c) = (false, refl)

handles-bool : (n : ℕ) (e : MeshEvent) → (b : Bool) × (handles_one n e ≡ cond b 1 0)
handles-bool n (Take b a) = (false, refl)
handles-bool n (Desk m) = (nat_eq m.0 n, refl)
handles-bool n (Tick m) = (false, refl)
handles-bool n (Learn m k) = (false, refl)
handles-bool n (Post c) = (false, refl)

-- Over one event a message that is under way is taken, being the first, or stays.
pub mail-turn : (t : Network) (s : Mesh) (e : MeshEvent) (u d : ℕ) (m : Msg) (before : List Msg) →
    StandsIn (s.mail u d) m before → Turn (takes_one u d e) ((step t s e).mail u d) m before
mail-turn t s e u d m before stands =
    let moved = mail-moves t s e u d in
    let b = takes-bool u d e in
    turned (takes_one u d e) b.0 b.1 (s.mail u d) ((step t s e).mail u d) m before stands.later moved.more stands.all
    moved.all

-- Over one event an item of a desk is handled, being the first, or stays.
pub desk-turn : (t : Network) (s : Mesh) (e : MeshEvent) (n : ℕ) (i : DeskItem) (before : List DeskItem) →
    StandsIn (s.desks n) i before → Turn (handles_one n e) ((step t s e).desks n) i before
desk-turn t s e n i before stands =
    let moved = desk-moves t s e n in
    let b = handles-bool n e in
    turned (handles_one n e) b.0 b.1 (s.desks n) ((step t s e).desks n) i before stands.later moved.more stands.all
    moved.all

-- Sweeps

-- in these events the message is taken, being then the first of its list
pub record GetsTaken (t : Network) (s : Mesh) (es : List MeshEvent) (u d : ℕ) (m : Msg) : Type 0 where
  pub first : List MeshEvent
  pub event : MeshEvent
  pub later : List MeshEvent
  pub parts : first ++ event ∷ later ≡ es
  pub takes : takes_one u d event ≡ 1
  pub waits : StandsIn ((after t s first).mail u d) m []

-- What stands behind fewer messages than are taken is taken.
is-taken : (t : Network) (s : Mesh) (es : List MeshEvent) (u d : ℕ) (m : Msg) (before : List Msg) →
    StandsIn (s.mail u d) m before → length before < taken_count u d es → GetsTaken t s es u d m
is-taken t s [] u d m before stands few = absurd (omega arith)
is-taken t s (e ∷ es) u d m before stands few =
    go (mail-turn t s e u d m before stands)
    (λ cs up less. is-taken t (step t s e) es u d m cs up less)
  where
    later : GetsTaken t (step t s e) es u d m → GetsTaken t s (e ∷ es) u d m
    later more = record {
      first = e ∷ more.first;
      event = more.event;
      later = more.later;
      parts = ap (λ xs. e ∷ xs) more.parts;
      takes = more.takes;
      waits = more.waits;
    }

    go : Turn (takes_one u d e) ((step t s e).mail u d) m before →
        ((cs : List Msg) → StandsIn ((step t s e).mail u d) m cs → length cs < taken_count u d es →
        GetsTaken t (step t s e) es u d m) → GetsTaken t s (e ∷ es) u d m
    go (Goes one none) again = record {
      first = [];
      event = e;
      later = es;
      parts = refl;
      takes = one;
      waits = subst (StandsIn (s.mail u d) m) none stands;
    }
    go (MovesUp c cs is one up) again =
        let size : length before ≡ suc (length cs) = rw is refl in later (again cs up (omega (arith, few, one, size)))
    go (Keeps none up) again = later (again before up (omega (arith, few, none)))

behind-less : {X : Type 0} (x : X) (before later : List X) → length before < length (before ++ x ∷ later)
behind-less x [] later = omega arith
behind-less x (c ∷ before) later = let h = behind-less x before later in omega (arith, h)

-- Where as many are taken as stood there, each of them is.
pub swept-mail : (t : Network) (s : Mesh) (es : List MeshEvent) (u d : ℕ) (m : Msg) (before : List Msg) →
    StandsIn (s.mail u d) m before → length (s.mail u d) ≤ taken_count u d es → GetsTaken t s es u d m
swept-mail t s es u d m before stands all =
    let less : length before < length (s.mail u d) = rw stands.all (behind-less m before stands.later) in
    is-taken t s es u d m before stands (omega (arith, less, all))

-- the event that handles the item
pub record GetsHandled (t : Network) (s : Mesh) (es : List MeshEvent) (n : ℕ) (i : DeskItem) : Type 0 where
  pub first : List MeshEvent
  pub event : MeshEvent
  pub later : List MeshEvent
  pub parts : first ++ event ∷ later ≡ es
  pub handles : handles_one n event ≡ 1
  pub waits : StandsIn ((after t s first).desks n) i []

is-handled : (t : Network) (s : Mesh) (es : List MeshEvent) (n : ℕ) (i : DeskItem) (before : List DeskItem) →
    StandsIn (s.desks n) i before → length before < handled_at n es → GetsHandled t s es n i
is-handled t s [] n i before stands few = absurd (omega arith)
is-handled t s (e ∷ es) n i before stands few =
    go (desk-turn t s e n i before stands)
    (λ cs up less. is-handled t (step t s e) es n i cs up less)
  where
    later : GetsHandled t (step t s e) es n i → GetsHandled t s (e ∷ es) n i
    later more = record {
      first = e ∷ more.first;
      event = more.event;
      later = more.later;
      parts = ap (λ xs. e ∷ xs) more.parts;
      handles = more.handles;
      waits = more.waits;
    }

    go : Turn (handles_one n e) ((step t s e).desks n) i before →
        ((cs : List DeskItem) → StandsIn ((step t s e).desks n) i cs → length cs < handled_at n es →
        GetsHandled t (step t s e) es n i) → GetsHandled t s (e ∷ es) n i
    go (Goes one none) again = record {
      first = [];
      event = e;
      later = es;
      parts = refl;
      handles = one;
      waits = subst (StandsIn (s.desks n) i) none stands;
    }
    go (MovesUp c cs is one up) again =
        let size : length before ≡ suc (length cs) = rw is refl in later (again cs up (omega (arith, few, one, size)))
    go (Keeps none up) again = later (again before up (omega (arith, few, none)))

-- So it is with the items of a desk.
pub swept-desk : (t : Network) (s : Mesh) (es : List MeshEvent) (n : ℕ) (i : DeskItem) (before : List DeskItem) →
    StandsIn (s.desks n) i before → length (s.desks n) ≤ handled_at n es → GetsHandled t s es n i
swept-desk t s es n i before stands all =
    let less : length before < length (s.desks n) = rw stands.all (behind-less i before stands.later) in
    is-handled t s es n i before stands (omega (arith, less, all))
