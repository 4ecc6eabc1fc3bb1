-- A merge of what happened at all nodes is a run.
use Rattle.std.proofs.Common.{◌≡◌, ℕ, List, [], ◌∷◌, ◌++◌, map, refl, sym, ap, ◌∙◌, subst, append-nil}
use Rattle.ason_base.specs.{declared.ids.NodeId.NodeId, declared.commands.Entry.Entry, Network.Network}
use Rattle.world_rules.specs.{Worlds.{World, world_start}, WorldRuns.{IsWorldRun, world_after, world_step}}
use Rattle.world_merge.specs.{Deeds.{Deed, alone}, Histories.{AreHistories, Histories, at}, Logs.line_of, Merges.{Agrees, Ascends, EveryMergeIsARun, concerns, events_of}}
use Rattle.world_merge.proofs.{Agreeing.agrees-self, Splitting.{SplitFits, left, moved, next}, NextLine.one-step}

no_lines : (n : NodeId) (ds : List Deed) → [] ≡ map (line_of n) ds → ds ≡ []
no_lines n [] e = refl
no_lines n (d ∷ ds) e = absurd (cc (e))

-- the run of a merge from a world to which part of what happened has led
pub record Runs (t : Network) (hists : Histories) (w : World) (m : List Entry) : Type 0 where
  pub run : IsWorldRun t w (events_of m)
  pub parts : (n : ℕ) → Agrees n (world_after t w (events_of m)) (alone t (at n) (hists n))

-- What is left of a merge goes on from there.
pub runs : (t : Network) (hists : Histories) → AreHistories t hists → (m : List Entry) (s : ℕ) → Ascends s m → (w : World)
    (before ahead : ℕ → List Deed) → SplitFits t hists w before ahead m → Runs t hists w m
runs t hists are [] s up w before ahead f = record {
  run = tt;
  parts = λ n. subst (λ ds. Agrees n w (alone t (at n) ds)) (sym (all n)) (f.world n);
}
  where
    all : (n : ℕ) → hists n ≡ before n
    all n = f.whole n ∙ ap (λ ds. before n ++ ds) (no_lines (at n) (ahead n) (f.lines n)) ∙ append-nil (before n)
runs t hists are (e ∷ m) s up w before ahead f =
    let one = one-step t hists are w before ahead e m s up f e.node refl in
    let rest = runs t hists are m e.stamp up.1 (world_step t w e.event) (λ n. moved (concerns n e) (before n) (ahead n))
    (λ n. left (concerns n e) (ahead n)) (next t hists w (world_step t w e.event) before ahead e m f one.agree) in
    record { run = (one.enabled, rest.run); parts = rest.parts }

-- the world whose parts are those of these worlds, each of its node
abbrev pub joined : (ℕ → World) → World
joined ws = record {
  nodes = λ n. (ws n).nodes n;
  desks = λ n. (ws n).desks n;
  ends = λ u d. (ws u).ends u d;
  floods = λ n. (ws n).floods n;
  channels = λ u d. (ws u).channels u d;
  posted = (ws 0).posted;
  failed = (ws 0).failed;
  made = λ n. (ws n).made n;
}

-- the nodes' parts make a world
pub same-joined : (ws vs : ℕ → World) → ((n : ℕ) → Agrees n (ws n) (vs n)) → joined ws ≡ joined vs
same-joined ws vs parts = λ i. record {
  nodes = λ n. (parts n).node i;
  desks = λ n. (parts n).desk i;
  ends = λ u d. (parts u).ends d i;
  floods = λ n. (parts n).flood i;
  channels = λ u d. (parts u).channels d i;
  posted = (parts 0).posted i;
  failed = (parts 0).failed i;
  made = λ n. (parts n).made i;
}

pub every-merge-is-a-run : EveryMergeIsARun
every-merge-is-a-run t hists m are is = record {
  run = r.run;
  parts = r.parts;
  leads = same-joined (λ n. world_after t (world_start t) (events_of m)) (λ n. alone t (at n) (hists n)) r.parts;
}
  where
    fits : SplitFits t hists (world_start t) (λ n. []) hists m
    fits = record { world = λ n. agrees-self n (world_start t); lines = is.parts; whole = λ n. refl }

    r : Runs t hists (world_start t) m
    r = runs t hists are m 0 is.ascends (world_start t) (λ n. []) hists fits
