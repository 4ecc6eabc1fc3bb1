-- Stations that are watched stay in view.
use Rattle.std.proofs.{Common.{◌≡◌, ℕ, false, List, [], ◌∷◌, ◌++◌, refl, sym, ap, ◌∙◌, subst, append-nil, append_assoc}, ByRecursion.All-append}
use Rattle.std.specs.{Prelude.{Result, Ok, IsTrue}, List.AllZip}
use Rattle.ason_base.specs.{declared.commands.Entry.Entry, Network.Network}
use Rattle.fleet.specs.{Rounds.Rounds, Standing.FleetState, Views.{HasPublished, Publishes, ShowNoiseMore, publishers_of, shown_by}, declared.fleet.RoundFault.RoundFault}
use Rattle.fleet.proofs.Places.{zip-self, zip-twice}
use Rattle.mesh_rules.specs.Rows.{leg_rows}
use Rattle.mgmt_view.specs.{Publishing.with_published, Tables.last_in}
use Rattle.mgmt_view.proofs.Lasts.{last-snoc}
use Rattle.script_rules.specs.{Outputs.How, Stages.{Stage, last_stage_of}}
use Rattle.station.specs.{Noise.is_noise_line, Watched.{ShowsNoiseMore, Shown, published_by, shown_of, table_of}}
use Rattle.round_rules.specs.States.{StationState}
use Rattle.ason_main.specs.{Running.{MakesRound, StandsAtStage}, Views.{IsInView, IsTableOf, StayInView, ends_in_noise}}
use Rattle.ason_main.proofs.{Rounded.{AreWithoutNoise, round_rounded}, Rounding.{IsMaking, Makings}}

abbrev IsNoise : Entry → Type 0
IsNoise e = IsTrue (is_noise_line e)

-- the table that a station publishes is a table of it, where its log doesn't end in noise
pub table-now : (s : StationState) → ends_in_noise s.log ≡ false → IsTableOf (table_of s) s
table-now s ended = record {
  legs = refl;
  before = s.log;
  since = [];
  noise = tt;
  ended = ended;
  log = sym (append-nil s.log);
  entries = refl;
}

-- One station

-- a watched one that has published its table
published-in-view : (s z : StationState) → HasPublished s.publisher z → ends_in_noise z.log ≡ false → IsInView s →
    IsInView z
published-in-view s z has ended is = record {
  publisher = with_published is.publisher (table_of z);
  watched = has ∙ ap (λ p. published_by p (table_of z)) is.watched;
  table = table_of z;
  last =
      ap last_in (sym (append_assoc is.publisher.published is.publisher.waiting (table_of z ∷ [])))
      ∙ last-snoc (is.publisher.published ++ is.publisher.waiting) (table_of z);
  is_table = table-now z ended;
}

-- one that heard noise
noise-in-view : (s z : StationState) → ShowsNoiseMore s z → IsInView s → IsInView z
noise-in-view s z more is = record {
  publisher = is.publisher;
  watched = more.publisher ∙ is.watched;
  table = is.table;
  last = is.last;
  is_table = record {
    legs =
        is.is_table.legs
        ∙ ap (λ node. leg_rows node.place.id node.state) (sym more.node);
    before = is.is_table.before;
    since = is.is_table.since ++ more.heard;
    noise = All-append IsNoise is.is_table.since more.heard is.is_table.noise more.noise;
    ended = is.is_table.ended;
    log =
        more.log ∙ ap (λ xs. xs ++ more.heard) is.is_table.log
        ∙ append_assoc is.is_table.before is.is_table.since more.heard;
    entries = is.is_table.entries;
  };
}

-- one that shows the same
same-in-view : (s z : StationState) → shown_of z ≡ shown_of s → IsInView s → IsInView z
same-in-view s z same = noise-in-view s z (record {
  node = ap (λ (x : Shown). x.controller.node) same;
  publisher = ap (λ (x : Shown). x.publisher) same;
  heard = [];
  noise = tt;
  log = ap (λ (x : Shown). x.log) same ∙ sym (append-nil s.log);
})

-- All stations

pub stay-self : (xs : List StationState) → StayInView xs xs
stay-self xs = zip-self (λ s z. IsInView s → IsInView z) (λ s is. is) xs

pub stay-then : (xs ys zs : List StationState) → StayInView xs ys → StayInView ys zs → StayInView xs zs
stay-then xs ys zs = zip-twice (λ s z. IsInView s → IsInView z) (λ s y z one two is. two (one is)) xs ys zs

pub shown-stay : (xs ys : List StationState) → shown_by ys ≡ shown_by xs → StayInView xs ys
shown-stay [] [] same = tt
shown-stay [] (y ∷ ys) same = absurd (cc (same))
shown-stay (x ∷ xs) [] same = absurd (cc (same))
shown-stay (x ∷ xs) (y ∷ ys) same =
    let first : shown_of y ≡ shown_of x = cc (same) in
    let rest : shown_by ys ≡ shown_by xs = cc (same) in
    (same-in-view x y first, shown-stay xs ys rest)

pub noise-stay : (xs ys : List StationState) → ShowNoiseMore xs ys → StayInView xs ys
noise-stay [] [] all = tt
noise-stay [] (y ∷ ys) all = absurd all
noise-stay (x ∷ xs) [] all = absurd all
noise-stay (x ∷ xs) (y ∷ ys) all = (noise-in-view x y all.0, noise-stay xs ys all.1)

published_stay : (xs ys : List StationState) → AllZip HasPublished (publishers_of xs) ys → AreWithoutNoise ys →
    StayInView xs ys
published_stay [] [] all ended = tt
published_stay [] (y ∷ ys) all ended = absurd all
published_stay (x ∷ xs) [] all ended = absurd all
published_stay (x ∷ xs) (y ∷ ys) all ended =
    (published-in-view x y all.0 ended.0, published_stay xs ys all.1 ended.1)

-- after a round that came to its end
pub round-stay : (count : ℕ) (old new : FleetState) → Publishes (Ok count) old new → AreWithoutNoise new.stations →
    StayInView old.stations new.stations
round-stay count old new all ended = published_stay old.stations new.stations all ended

-- no log ends in noise behind a round that a line makes
pub made-rounded : (Makes : Makings) (t : Network) (workers rounds made count : ℕ)
    (old now new : FleetState) (s : Stage) → StandsAtStage t old s → IsMaking Makes t rounds made old now →
    Rounds workers now new (Ok count) → AreWithoutNoise new.stations
made-rounded Makes t workers rounds made count old now new s at making on =
    let so_far = making.so_far s at in
    let z = last_stage_of s so_far.more in
    round_rounded workers count now new t z.lines z.made so_far.led.stands on

-- a round of a crew
pub made-rounds : (a b : How) → a ≡ b → (r : Result ℕ RoundFault) (old new : FleetState) →
    MakesRound a.workers r old new → Rounds b.workers old new r
made-rounds a b same r old new made = subst (λ (how : How). Rounds how.workers old new r) same made.rounds
