-- One frame of a ring, before those that follow.
use Rattle.std.proofs.Common.{◌≡◌, ◌≤◌, ℕ, Bool, true, false, List, [], ◌∷◌, ◌++◌, length, sym, ap, ◌∙◌, subst, append-nil}
use Rattle.ason_base.specs.{declared.ids.NodeId.NodeId, Network.Network}
use Rattle.round_rules.specs.{Doings.Doing, Functions.{Popped, all_taken}, Limits.{Progress, going, pop_part, pop_parts}, Lines.says, Ends.{EndsAs, PopsEnd}, Moves.TakesAt, Phases.ring_phase, Places.HaveComeOn, Starts.{AreFirstTakings, StarvesAs}, States.{IsStationOf, StationState}, Turned.{HaveComeTo, IsPoppedAs, all_of}}
use Rattle.round_rules.proofs.{Ending.pop-does, Turning.{Takes, takes}, PartEnding.{Across, ends-later, nothing-ends}, Passing.past-last, Places.NoneTaken, Pops.{StaysAt, FrameTaken, from-then, left-at, no_pops, none-all, put_at, stops-at, taken-first}, Starving.{starves-later, takings-then}}
use Rattle.station_rings.specs.{declared.parcel.Parcel.Parcel, LinkStates.LinkState}

module _ (t : Network) (n : NodeId) (ds : List Doing) (i : ℕ) (old : StationState) (first : LinkState) where
  abbrev Pops : Bool → StationState → Type 0
  Pops halted new = PopsEnd (HaveComeOn first) i old new t n ds halted

  -- a frame is taken, and what its line says is done
  pub ring-step : (mid end : StationState) (u : NodeId) (q : Parcel) (p : Popped) (done more : List Doing) →
      IsPoppedAs u q p → TakesAt u q i old.links mid.links → mid.lines ≡ old.lines →
      pop_part (says old.lines p.from n p.number) ds p ≡ going done → done ≡ ds ++ more → IsStationOf t n done mid →
      Across (ring_phase first i) (ring_phase first i) old mid end t n ds
  ring-step mid end u q p done more popped takes_it lines part all stands = record {
    done = done;
    more = more;
    all = all;
    stands = stands;
    on = λ halted r.
        let f = taken-first first halted u q p i old.links mid.links end.links r.pops popped takes_it r.are in
        record {
          pops = put_at i p r.pops;
          are = f.are;
          ends =
              ends-later t n ds done more halted (pop_parts mid.lines n (going done) (all_of r.pops)) _ end all
              (ap (λ ls. pop_parts ls n (going done) (all_of r.pops)) lines
              ∙ ap (λ x. pop_parts old.lines n x (all_of r.pops)) (sym part)
              ∙ ap (pop_parts old.lines n (going ds)) (sym f.all)) r.ends;
        };
    starves =
        starves-later old.lines mid.lines (AreFirstTakings mid.lines n) (AreFirstTakings old.lines n) t n ds done _ end
        (does ∙ one.all) lines
        (λ made r.
        takings-then old.lines n one.takings made one.are (subst (λ ls. AreFirstTakings ls n made) lines r));
  }
    where
      one : Takes old.lines n ds (p ∷ [])
      one = takes old.lines n ds (p ∷ [])

      does : done ≡ all_taken old.lines n ds (p ∷ [])
      does =
          sym (ap (λ (x : Progress). x.doings) part)
          ∙ pop-does (says old.lines p.from n p.number) ds p (ap (λ (x : Progress). x.halted) part)

  one_pop : (halted : Bool) (new : StationState) (links : List LinkState) (p : Popped) →
      FrameTaken (HaveComeOn first halted) old.links new.links i p (no_pops links) →
      EndsAs t n ds halted (pop_part (says old.lines p.from n p.number) ds p) new → Pops halted new
  one_pop halted new links p f ends = record {
    pops = put_at i p (no_pops links);
    are = f.are;
    ends =
        subst (λ ps. EndsAs t n ds halted (pop_parts old.lines n (going ds) ps) new)
        (sym (f.all ∙ ap (λ ps. p ∷ ps) (none-all links))) ends;
  }

  -- it stays there at the limit
  pub ring-halt : (new : StationState) (u : NodeId) (q : Parcel) (p : Popped) → IsPoppedAs u q p →
      StaysAt u q i old.links new.links →
      EndsAs t n ds true (pop_part (says old.lines p.from n p.number) ds p) new → Pops true new
  ring-halt new u q p popped stays ends =
      one_pop true new old.links p (left-at first u q p i old.links new.links popped stays) ends

  -- it is delivered once, and its second delivery is left
  pub ring-half : (new : StationState) (u : NodeId) (q : Parcel) (p : Popped) → IsPoppedAs u q p →
      TakesAt u q i old.links new.links →
      EndsAs t n ds true (pop_part (says old.lines p.from n p.number) ds p) new → Pops true new
  ring-half new u q p popped takes_it ends =
      one_pop true new new.links p
      (taken-first first true u q p i old.links new.links new.links (no_pops new.links) popped takes_it
      (stops-at first u q i old.links new.links takes_it)) ends

  -- a frame comes out of the ring, and waits
  pub ring-fetch : (mid end : StationState) → NoneTaken old.links mid.links → mid.lines ≡ old.lines →
      IsStationOf t n ds mid → Across (ring_phase first i) (ring_phase first i) old mid end t n ds
  ring-fetch mid end none lines is = record {
    done = ds;
    more = [];
    all = sym (append-nil ds);
    stands = is;
    on = λ halted r. record {
      pops = r.pops;
      are = from-then first halted i old.links mid.links end.links r.pops none r.are;
      ends =
          subst (λ ls. EndsAs t n ds halted (pop_parts ls n (going ds) (all_of r.pops)) end) lines r.ends;
    };
    starves = subst (λ ls. StarvesAs ls (AreFirstTakings ls n) t n ds end) lines;
  }

-- no ring is left
pub rings-none : (t : Network) (n : NodeId) (ds : List Doing) (i : ℕ) (s : StationState) → length s.links ≤ i →
    IsStationOf t n ds s → PopsEnd HaveComeTo i s s t n ds false
rings-none t n ds i s le is = record {
  pops = no_pops s.links;
  are = past-last i s.links le;
  ends =
      subst (λ ps. EndsAs t n ds false (pop_parts s.lines n (going ds) ps) s) (sym (none-all s.links))
      (nothing-ends t n ds s is);
}
