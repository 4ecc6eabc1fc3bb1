-- The next line of a merge is an event that is enabled.
use Rattle.std.proofs.Common.{◌≡◌, ℕ, Bool, true, false, nat_eq, List, [], ◌∷◌, ◌++◌, map, refl, sym, ap, ◌∙◌, subst, arith}
use Rattle.std.specs.Prelude.{◌&&◌, not, Option, Some, None, IsTrue, is_some}
use Rattle.ason_base.specs.{declared.ids.NodeId.NodeId, declared.commands.Command.Command, declared.commands.Entry.Entry, declared.commands.Event.TheVariants.Post, Network.Network}
use Rattle.ason_base.proofs.Numbers.{number-back, self-number}
use Rattle.flood.specs.declared.frames.Content.{Content}
use Rattle.mesh_rules.specs.{Commands.{is_again, is_valid}, Events.has_first}
use Rattle.world_rules.specs.{Worlds.{World, delivered, frame_at, world_start, with_event}, WorldRuns.{IsEnabled, is_world_channel, is_event_of, may_act, world_step}}
use Rattle.world_merge.specs.{Deeds.{AreDoable, Deed, Handled, Heard, IsDoable, Posted, Ticked, Took, alone, done, stamp_of}, Histories.{AreGenuine, AreHistories, Histories, IsGenuine, at}, Logs.line_of, Merges.{Agrees, Ascends, concerns, is_line_at, part}}
use Rattle.world_merge.proofs.{Agreeing.{same-done, same-posted, then-agrees}, Elsewhere.{NodeEvent, Delivered, HandledAt, Noised, TickedAt, event, others-agree}, Splitting.{SplitFits, alone-more, doable-split, first, genuine-split, line-stamp, moved, own-lines}, Sendings.sent-before}

-- the world's event that a node's deed is
record IsNodes (t : Network) (w : World) (k : NodeId) (d : Deed) (e : NodeEvent) : Type 0 where
  line : (line_of k d).event ≡ event e
  of : (n : ℕ) → is_event_of n (event e) ≡ nat_eq k.0 n
  enabled : IsEnabled t w (event e)
  does : world_step t w (event e) ≡ done t k w d

-- Posts aside, a deed that may happen at the node alone may happen in the world, where the frame that it took is there.
abbrev IsThere : World → NodeId → Deed → Type 0
IsThere w k (Ticked s) = Unit {0}
IsThere w k (Handled s) = Unit {0}
IsThere w k (Took s u i x) = frame_at w u k i ≡ Some x
IsThere w k (Heard s u bytes) = Unit {0}
IsThere w k (Posted s c) = Unit {0}

may_still : (t : Network) (w v : World) (k : NodeId) → Agrees k.0 w v → may_act t v k ≡ may_act t w k
may_still t w v k f = ap (λ c. may_act t (record v { made = λ n. c }) k) (sym f.made)

both_and : (a b c : Bool) → IsTrue (a && b) → c ≡ true → IsTrue (a && b && c)
both_and a b c h e = grind arith

some_there : (o : Option Content) (x : Content) → o ≡ Some x → is_some o ≡ true
some_there o x e = ap is_some e

nodes_event : (t : Network) (w v : World) (k : NodeId) (d : Deed) (n : Option NodeId) → n ≡ (line_of k d).node →
    n ≡ Some k → Agrees k.0 w v → IsDoable t k v d → IsThere w k d → (e : NodeEvent) × IsNodes t w k d e
nodes_event t w v k (Ticked s) n is some f may there = (
  TickedAt k,
  record {
    line = refl;
    of = λ m. refl;
    enabled = subst IsTrue (may_still t w v k f) may;
    does = refl;
  },
)
nodes_event t w v k (Handled s) n is some f may there = (
  HandledAt k,
  record {
    line = refl;
    of = λ m. refl;
    enabled = subst (λ b. IsTrue (b && has_first (w.desks k.0))) (may_still t w v k f)
        (subst (λ items. IsTrue (may_act t v k && has_first items)) (sym f.desk) may);
    does = refl;
  },
)
nodes_event t w v k (Took s u i x) n is some f may there = (
  Delivered k u i,
  record {
    line = refl;
    of = λ m. refl;
    enabled = both_and (may_act t w k) (is_world_channel t u k) (is_some (frame_at w u k i))
        (subst (λ b. IsTrue (b && is_world_channel t u k)) (may_still t w v k f) may)
        (some_there (frame_at w u k i) x there);
    does = ap (delivered t (with_event w k.0) k u) there;
  },
)
nodes_event t w v k (Heard s u bytes) n is some f may there = (
  Noised k u bytes,
  record {
    line = refl;
    of = λ m. refl;
    enabled = (subst (λ b. IsTrue (b && is_world_channel t u k)) (may_still t w v k f) may.0, may.1);
    does = refl;
  },
)
nodes_event t w v k (Posted s c) n is some f may there = absurd (cc (is, some))

-- The line's event is enabled, and after it each node has what it made alone, of this node the next deed with it.
pub record IsStep (t : Network) (w : World) (before ahead : ℕ → List Deed) (e : Entry) : Type 0 where
  pub enabled : IsEnabled t w e.event
  pub agree : (n : ℕ) (b : Bool) → concerns n e ≡ b →
      Agrees n (world_step t w e.event) (alone t (at n) (moved b (before n) (ahead n)))

-- a node's deed
node_step : (t : Network) (hists : Histories) → AreHistories t hists → (w : World) (before ahead : ℕ → List Deed)
    (e : Entry) (m : List Entry) (s : ℕ) → Ascends s (e ∷ m) → SplitFits t hists w before ahead (e ∷ m) → (k : NodeId) →
    e.node ≡ Some k → (d : Deed) (ds : List Deed) → ahead k.0 ≡ d ∷ ds → IsStep t w before ahead e
node_step t hists are w before ahead e m s up f k node d ds front = record {
  enabled = subst (IsEnabled t w) (sym it) is.1.enabled;
  agree = agree;
}
  where
    here : concerns k.0 e ≡ true
    here = ap (is_line_at k.0) node ∙ self-number k.0

    lines : e ∷ part k.0 m ≡ line_of k d ∷ map (line_of k) ds
    lines = own-lines t hists w before ahead e m k.0 (d ∷ ds) f here front

    line : e ≡ line_of k d
    line = cc (lines)

    whole : hists k.0 ≡ before k.0 ++ d ∷ ds
    whole = f.whole k.0 ∙ ap (λ xs. before k.0 ++ xs) front

    v : World
    v = alone t k (before k.0)

    may : IsDoable t k v d
    may = doable-split t k (world_start t) (before k.0) d ds
        (subst (AreDoable t k (world_start t)) whole (are.doable k.0))

    real : IsGenuine t hists k.0 d
    real = genuine-split t hists k.0 (before k.0) d ds (subst (AreGenuine t hists k.0) whole (are.genuine k.0))

    stamp : e.stamp ≡ stamp_of d
    stamp = ap (λ (x : Entry). x.stamp) line ∙ line-stamp k d

    there : (x : Deed) → IsGenuine t hists k.0 x → stamp_of x ≡ e.stamp → IsThere w k x
    there (Ticked r) g same = tt
    there (Handled r) g same = tt
    there (Took r u i x) g same =
        sent-before t hists w before ahead (e ∷ m) k.0 u.0 r i x f (omega (arith, same), up.1) g
    there (Heard r u bytes) g same = tt
    there (Posted r c) g same = tt

    is : (x : NodeEvent) × IsNodes t w k d x
    is =
        nodes_event t w v k d e.node (ap (λ (x : Entry). x.node) line) node (f.world k.0) may
        (there d real (sym stamp))

    it : e.event ≡ event is.0
    it = ap (λ (x : Entry). x.event) line ∙ is.1.line

    does : world_step t w e.event ≡ done t k w d
    does = ap (world_step t w) it ∙ is.1.does

    own : Agrees k.0 (world_step t w e.event) (alone t k (before k.0 ++ first (ahead k.0)))
    own =
        subst (λ x. Agrees k.0 x (alone t k (before k.0 ++ first (ahead k.0)))) (sym does)
        (subst (λ xs. Agrees k.0 (done t k w d) (alone t k (before k.0 ++ first xs))) (sym front)
        (subst (Agrees k.0 (done t k w d)) (sym (alone-more t k (world_start t) (before k.0) (d ∷ [])))
        (same-done t k d w v (f.world k.0))))

    at_k : (n : ℕ) → concerns n e ≡ nat_eq k.0 n
    at_k n = ap (is_line_at n) node

    agree : (n : ℕ) (b : Bool) → concerns n e ≡ b →
        Agrees n (world_step t w e.event) (alone t (at n) (moved b (before n) (ahead n)))
    agree n true c =
        subst (λ j. Agrees j (world_step t w e.event) (alone t (at j) (before j ++ first (ahead j))))
        (sym (number-back k.0 n (sym (at_k n) ∙ c))) own
    agree n false c =
        then-agrees n (world_step t w e.event) w (alone t (at n) (before n))
        (subst (λ x. Agrees n (world_step t w x) w) (sym it)
        (others-agree t w is.0 n (is.1.of n ∙ sym (at_k n) ∙ c))) (f.world n)

-- a post
posted_is : (n : NodeId) (e : Entry) (d : Deed) → e ≡ line_of n d → e.node ≡ None →
    (s : ℕ) × (c : Command) × (d ≡ Posted s c) × (e.event ≡ Post c)
posted_is n e (Ticked s) is none = absurd (cc (ap (λ (x : Entry). x.node) is, none))
posted_is n e (Handled s) is none = absurd (cc (ap (λ (x : Entry). x.node) is, none))
posted_is n e (Took s u k x) is none = absurd (cc (ap (λ (y : Entry). y.node) is, none))
posted_is n e (Heard s u bytes) is none = absurd (cc (ap (λ (x : Entry). x.node) is, none))
posted_is n e (Posted s c) is none = (s, c, refl, ap (λ (x : Entry). x.event) is)

record IsPosted (t : Network) (w : World) (before ahead : ℕ → List Deed) (e : Entry) (n : ℕ)
    (c : Command) : Type 0 where
  enabled : IsEnabled t w (Post c)
  agree : Agrees n (world_step t w (Post c)) (alone t (at n) (before n ++ first (ahead n)))

post_at : (t : Network) (hists : Histories) → AreHistories t hists → (w : World) (before ahead : ℕ → List Deed)
    (e : Entry) (m : List Entry) → SplitFits t hists w before ahead (e ∷ m) → e.node ≡ None → (n : ℕ) (xs : List Deed) →
    ahead n ≡ xs → (c : Command) × (e.event ≡ Post c) × IsPosted t w before ahead e n c
post_at t hists are w before ahead e m f none n [] front =
    let lines : e ∷ part n m ≡ [] = own-lines t hists w before ahead e m n [] f (ap (is_line_at n) none) front in
    absurd (cc (lines))
post_at t hists are w before ahead e m f none n (d ∷ ds) front =
    (is.1, is.3, record { enabled = enabled; agree = agree })
  where
    lines : e ∷ part n m ≡ line_of (at n) d ∷ map (line_of (at n)) ds
    lines = own-lines t hists w before ahead e m n (d ∷ ds) f (ap (is_line_at n) none) front

    line : e ≡ line_of (at n) d
    line = cc (lines)

    is : (s : ℕ) × (c : Command) × (d ≡ Posted s c) × (e.event ≡ Post c)
    is = posted_is (at n) e d line none

    whole : hists n ≡ before n ++ d ∷ ds
    whole = f.whole n ∙ ap (λ xs. before n ++ xs) front

    v : World
    v = alone t (at n) (before n)

    may : IsDoable t (at n) v (Posted is.0 is.1)
    may =
        subst (IsDoable t (at n) v) is.2
        (doable-split t (at n) (world_start t) (before n) d ds
        (subst (AreDoable t (at n) (world_start t)) whole (are.doable n)))

    enabled : IsEnabled t w (Post is.1)
    enabled = subst (λ ps. IsTrue (is_valid t is.1 && not (is_again ps is.1))) (sym (f.world n).posted) may

    agree : Agrees n (world_step t w (Post is.1)) (alone t (at n) (before n ++ first (ahead n)))
    agree =
        subst (λ xs. Agrees n (world_step t w (Post is.1)) (alone t (at n) (before n ++ first xs))) (sym front)
        (subst (λ x. Agrees n (world_step t w (Post is.1)) (alone t (at n) (before n ++ x ∷ []))) (sym is.2)
        (subst (Agrees n (world_step t w (Post is.1)))
        (sym (alone-more t (at n) (world_start t) (before n) (Posted is.0 is.1 ∷ [])))
        (same-posted t n is.1 w v (f.world n))))

post_step : (t : Network) (hists : Histories) → AreHistories t hists → (w : World) (before ahead : ℕ → List Deed)
    (e : Entry) (m : List Entry) → SplitFits t hists w before ahead (e ∷ m) → e.node ≡ None → IsStep t w before ahead e
post_step t hists are w before ahead e m f none = record {
  enabled = let p = post_at t hists are w before ahead e m f none 0 (ahead 0) refl in
      subst (IsEnabled t w) (sym p.1) p.2.enabled;
  agree = agree;
}
  where
    agree : (n : ℕ) (b : Bool) → concerns n e ≡ b →
        Agrees n (world_step t w e.event) (alone t (at n) (moved b (before n) (ahead n)))
    agree n true c =
        let p = post_at t hists are w before ahead e m f none n (ahead n) refl in
        subst (λ x. Agrees n (world_step t w x) (alone t (at n) (before n ++ first (ahead n)))) (sym p.1) p.2.agree
    agree n false c = absurd (cc (c, ap (is_line_at n) none))

-- the first line of those that are left
pub one-step : (t : Network) (hists : Histories) → AreHistories t hists → (w : World) (before ahead : ℕ → List Deed)
    (e : Entry) (m : List Entry) (s : ℕ) → Ascends s (e ∷ m) → SplitFits t hists w before ahead (e ∷ m) →
    (o : Option NodeId) → e.node ≡ o → IsStep t w before ahead e
one-step t hists are w before ahead e m s up f None node = post_step t hists are w before ahead e m f node
one-step t hists are w before ahead e m s up f (Some k) node = go (ahead k.0) refl
  where
    here : concerns k.0 e ≡ true
    here = ap (is_line_at k.0) node ∙ self-number k.0

    go : (xs : List Deed) → ahead k.0 ≡ xs → IsStep t w before ahead e
    go [] front =
        let lines : e ∷ part k.0 m ≡ [] = own-lines t hists w before ahead e m k.0 [] f here front in
        absurd (cc (lines))
    go (d ∷ ds) front = node_step t hists are w before ahead e m s up f k node d ds front
