-- After a round no log of a node ends in noise.
use Rattle.std.proofs.{Common.{◌≡◌, ◌∙◌, ℕ, Bool, true, false, List, [], ◌∷◌, ◌++◌, map, refl, sym, ap, subst}, ByRecursion.All-append}
use Rattle.std.specs.{Prelude.Ok, List.AllByRecursion}
use Rattle.ason_base.specs.{declared.commands.Disturb.Disturb, declared.commands.Entry.Entry, declared.ids.NodeId.NodeId, Network.{Network, is_node_id}}
use Rattle.ason_base.proofs.{Members.all-mapped, Places.all-by_place}
use Rattle.flood.specs.declared.frames.Content.{Content}
use Rattle.world_merge.specs.{Deeds.{Handled, Heard, Posted, Ticked, Took}, Histories.at, Logs.log_of}
use Rattle.station_rings.proofs.Deeds.{log-more}
use Rattle.round_rules.specs.{Doings.{Did, Doing, Freed, Got, Left, Lost, deeds_in}, Held.HeldFrame, OneWorker.ids_of, Records.{Record, deeds_at, log_at, new_record}, Rounds.IsRoundAt, Takings.{Taking, all_doings, doings_of}, Turns.{AreDelivered, AreHandled, IsTurnOf}, States.StationState}
use Rattle.round_rules.proofs.{Desks.deeds-more, RoundParts.round-part}
use Rattle.station.specs.Noise.{is_noise_line}
use Rattle.fleet.specs.{Rounds.Rounds, Standing.{FleetState, StandsFor}}
use Rattle.fleet.proofs.{Firsts.place-known, Made.standing-has-made}
use Rattle.ason_main.specs.Views.{ends_in_noise, noise_after}

-- Lists

all_under : {X Y : Type 0} (P : Y → Type 0) (f : X → Y) (xs : List X) → AllByRecursion P (map f xs) →
    AllByRecursion (λ x. P (f x)) xs
all_under P f [] all = tt
all_under P f (x ∷ xs) all = (all.0, all_under P f xs all.1)

-- What a node does in a turn

abbrev hears : Doing → Bool
hears (Did (Heard s u bytes)) = true
hears _ = false

abbrev AreUnheard : List Doing → Type 0
AreUnheard ds = AllByRecursion (λ d. hears d ≡ false) ds

delivered_unheard : (hs : List HeldFrame) (ds : List Doing) → AreDelivered hs ds → AreUnheard ds
delivered_unheard [] ds none = subst AreUnheard (sym none) tt
delivered_unheard (h ∷ hs) ds is = subst AreUnheard (sym is.3) (refl, (refl, delivered_unheard hs is.2 is.4))

handled_unheard : (ds : List Doing) → AreHandled ds → AreUnheard ds
handled_unheard [] all = tt
handled_unheard (d ∷ ds) all = (ap hears all.0.1, handled_unheard ds all.1)

took_unheard : (u : NodeId) (k : ℕ) (x : Content) (stamps : List ℕ) → AreUnheard (map (λ s. Did (Took s u k x)) stamps)
took_unheard u k x [] = tt
took_unheard u k x (s ∷ stamps) = (refl, took_unheard u k x stamps)

takings_unheard : (gs : List Taking) → AreUnheard (all_doings gs)
takings_unheard [] = tt
takings_unheard (g ∷ gs) =
    All-append (λ d. hears d ≡ false) (doings_of g) (all_doings gs)
    (refl, took_unheard g.from g.number g.content g.stamps) (takings_unheard gs)

-- The lines of it

noise_both : (last : Bool) (xs ys : List Entry) → noise_after last (xs ++ ys) ≡ noise_after (noise_after last xs) ys
noise_both last [] ys = refl
noise_both last (x ∷ xs) ys = noise_both (is_noise_line x) xs ys

unheard_lines : (n : NodeId) (ds : List Doing) → AreUnheard ds → ends_in_noise (log_of n (deeds_in ds)) ≡ false
unheard_lines n [] none = refl
unheard_lines n (Did (Ticked s) ∷ ds) none = unheard_lines n ds none.1
unheard_lines n (Did (Handled s) ∷ ds) none = unheard_lines n ds none.1
unheard_lines n (Did (Took s u k x) ∷ ds) none = unheard_lines n ds none.1
unheard_lines n (Did (Heard s u bytes) ∷ ds) none = let heard : true ≡ false = none.0 in absurd (cc (heard))
unheard_lines n (Did (Posted s c) ∷ ds) none = unheard_lines n ds none.1
unheard_lines n (Got u k says ∷ ds) none = unheard_lines n ds none.1
unheard_lines n (Freed ∷ ds) none = unheard_lines n ds none.1
unheard_lines n (Lost u k ∷ ds) none = unheard_lines n ds none.1
unheard_lines n (Left input ∷ ds) none = unheard_lines n ds none.1

-- a turn with a tick has a line, and none of noise
turn_lines : (t : Network) (lines : List Disturb) (n m : NodeId) (before added : List Doing) →
    IsTurnOf t lines n true before added → (last : Bool) → noise_after last (log_of m (deeds_in added)) ≡ false
turn_lines t lines n m before added turn last =
    subst (λ ds. noise_after last (log_of m (deeds_in ds)) ≡ false)
    (sym (turn.all ∙ ap (λ ds. ds ++ rest) turn.is_tick.1)) (unheard_lines m rest unheard)
  where
    rest : List Doing
    rest = turn.dues ++ (turn.items ++ all_doings turn.takings)

    unheard : AreUnheard rest
    unheard =
        All-append (λ d. hears d ≡ false) turn.dues (turn.items ++ all_doings turn.takings)
        (delivered_unheard _ turn.dues turn.are_due)
        (All-append (λ d. hears d ≡ false) turn.items (all_doings turn.takings) (handled_unheard turn.items turn.handled)
        (takings_unheard turn.takings))

-- Logs

log_ended : (t : Network) (lines : List Disturb) (before after : Record) (n : NodeId) →
    IsRoundAt t lines before after n → ends_in_noise (log_at after n.0) ≡ false
log_ended t lines before after n made =
    let is = round-part t lines before after n made in
    ap (λ ds. ends_in_noise (log_of (at n.0) (deeds_in ds))) is.all
    ∙ ap (λ ds. ends_in_noise (log_of (at n.0) ds)) (deeds-more (before.doings n.0) is.added)
    ∙ ap ends_in_noise (log-more (at n.0) (deeds_at before n.0) (deeds_in is.added))
    ∙ noise_both false (log_at before n.0) (log_of (at n.0) (deeds_in is.added))
    ∙ turn_lines t lines n (at n.0) (before.doings n.0) is.added is.turn (ends_in_noise (log_at before n.0))

-- no log of these stations ends in noise
abbrev pub AreWithoutNoise : List StationState → Type 0
AreWithoutNoise xs = AllByRecursion (λ s. ends_in_noise s.log ≡ false) xs

standing_rounded : (t : Network) (lines : List Disturb) (f : FleetState) (r : Record) → StandsFor t lines f r →
    ((n : NodeId) → is_node_id t.nodes n ≡ true → ends_in_noise (log_at r n.0) ≡ false) → AreWithoutNoise f.stations
standing_rounded t lines f r stands each =
    all_under (λ log. ends_in_noise log ≡ false) (λ (s : StationState). s.log) f.stations
    (subst (AllByRecursion (λ log. ends_in_noise log ≡ false)) (sym (standing-has-made t lines f r stands).logs)
    (all-mapped (λ log. ends_in_noise log ≡ false) (λ (n : NodeId). log_at r n.0) (ids_of t)
    (all-by_place (λ (n : NodeId). ends_in_noise (log_at r n.0) ≡ false) (ids_of t)
    (λ place n there. each n (place-known t place n there)))))

-- none does after a round
pub round_rounded : (workers count : ℕ) (old new : FleetState) (t : Network) (lines : List Disturb) (r : Record) →
    StandsFor t lines old r → Rounds workers old new (Ok count) → AreWithoutNoise new.stations
round_rounded workers count old new t lines r stands rounds =
    let made = rounds t lines r stands in
    standing_rounded t lines new made.after made.stands
    (λ n known. log_ended t lines r made.after n (made.round.round.nodes n known))

-- nor in the beginning
pub new_rounded : (t : Network) (f : FleetState) → StandsFor t [] f new_record → AreWithoutNoise f.stations
new_rounded t f stands = standing_rounded t [] f new_record stands (λ n known. refl)
