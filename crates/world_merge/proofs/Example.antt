-- Three nodes that ran at the same time, worked out: b and c tick with the same stamp, and a takes two frames of b, the
-- second one first. Whichever of b and c stands first, the merge is a run, and both lead to one world.
use Rattle.std.proofs.Common.{◌≡◌, ℕ, Bool, true, false, cond, nat_eq, List, [], ◌∷◌, map, refl, sym, ◌∙◌, subst, arith}
use Rattle.ason_base.specs.{declared.ids.NodeId.NodeId, declared.network.LinkSpec.LinkSpec, declared.commands.Entry.Entry, Network.{Network, row_of}}
use Rattle.flood.specs.{declared.frames.Content.TheVariants.Flood, declared.messages.FloodMsg.TheVariants.Row}
use Rattle.world_rules.specs.{WorldRuns.world_after, Worlds.world_start}
use Rattle.world_merge.specs.{Deeds.{AreDoable, Deed, Ticked, Took}, Histories.{AreGenuine, AreHistories, at}, Logs.line_of, Merges.{IsRunOf, events_of, part}}
use Rattle.world_merge.proofs.MergedRuns.{every-merge-is-a-run}

abbrev a : NodeId
a = record { 0 = 1 }

abbrev b : NodeId
b = record { 0 = 2 }

abbrev c : NodeId
c = record { 0 = 3 }

abbrev link : ℕ → NodeId → NodeId → LinkSpec
link k low high = record { id = record { 0 = k }; low = low; high = high; labels = 1; metric = 1; srlgs = [] }

abbrev network : Network
network = record {
  wait = 0;
  nodes = record { id = a; convert = true } ∷ record { id = b; convert = true } ∷ record { id = c; convert = true }
      ∷ [];
  links = link 1 a b ∷ link 2 b c ∷ [];
}

-- b's row of the second link, and then that of the first
abbrev at_a : List Deed
at_a =
    Took 2 b 2 (Flood (Row 2 b (row_of (link 2 b c)))) ∷ Took 3 b 1 (Flood (Row 1 b (row_of (link 1 a b)))) ∷ []

abbrev ticked : List Deed
ticked = Ticked 1 ∷ []

abbrev hists : ℕ → List Deed
hists n = cond (nat_eq 1 n) at_a (cond (nat_eq 2 n) ticked (cond (nat_eq 3 n) ticked []))

by_number : (P : ℕ → List Deed → Type 0) → P 1 at_a → P 2 ticked → P 3 ticked →
    ((n : ℕ) → nat_eq 1 n ≡ false → nat_eq 2 n ≡ false → nat_eq 3 n ≡ false → P n []) → (n : ℕ) → P n (hists n)
by_number P x y z none n = go (nat_eq 1 n) refl (nat_eq 2 n) refl (nat_eq 3 n) refl
  where
    same : (k : ℕ) → nat_eq k n ≡ true → k ≡ n
    same k e = grind (arith, e)

    go : (p : Bool) → nat_eq 1 n ≡ p → (q : Bool) → nat_eq 2 n ≡ q → (r : Bool) → nat_eq 3 n ≡ r →
        P n (cond p at_a (cond q ticked (cond r ticked [])))
    go true e q f r g = subst (λ k. P k at_a) (same 1 e) x
    go false e true f r g = subst (λ k. P k ticked) (same 2 f) y
    go false e false f true g = subst (λ k. P k ticked) (same 3 g) z
    go false e false f false g = none n e f g

-- a's frames were sent by what b did up to stamp 1
are : AreHistories network hists
are = record {
  doable = by_number (λ n ds. AreDoable network (at n) (world_start network) ds) (refl, (refl, tt)) (refl, tt) (
    refl,
    tt,
  )
      (λ n e f g. tt);
  genuine = by_number (λ n ds. AreGenuine network hists n ds)
      ((1, omega arith, refl), ((1, omega arith, refl), tt)) (tt, tt) (tt, tt) (λ n e f g. tt);
}

abbrev taken : List Entry
taken = map (line_of a) at_a

abbrev b_first : List Entry
b_first = line_of b (Ticked 1) ∷ line_of c (Ticked 1) ∷ taken

abbrev c_first : List Entry
c_first = line_of c (Ticked 1) ∷ line_of b (Ticked 1) ∷ taken

b_first_is : IsRunOf network hists b_first
b_first_is = every-merge-is-a-run network hists b_first are (record {
  ascends = (omega arith, (omega arith, (omega arith, (omega arith, tt))));
  parts = by_number (λ n ds. part n b_first ≡ map (line_of (at n)) ds) refl refl refl (λ n e f g. rw (e, f, g) refl);
})

c_first_is : IsRunOf network hists c_first
c_first_is = every-merge-is-a-run network hists c_first are (record {
  ascends = (omega arith, (omega arith, (omega arith, (omega arith, tt))));
  parts = by_number (λ n ds. part n c_first ≡ map (line_of (at n)) ds) refl refl refl (λ n e f g. rw (e, f, g) refl);
})

one_world : world_after network (world_start network) (events_of b_first)
    ≡ world_after network (world_start network) (events_of c_first)
one_world = b_first_is.leads ∙ sym c_first_is.leads
