-- Each part of a turn keeps it so that the station stands by what its node did.
use Rattle.std.proofs.{Common.{◌≡◌, ◌<◌, ◌+◌, ℕ, List, [], ◌∷◌, ◌++◌, drop, map, refl, sym, ap, ◌∙◌, subst, arith}, lemmas.List.Sums.fold-append}
use Rattle.std.specs.{Prelude.{max, Some}, List.AllByRecursion}
use Rattle.ason_base.specs.{declared.ids.NodeId.NodeId, declared.commands.DisturbKind.TheVariants.Hold, declared.commands.Event.TheVariants.Deliver, Network.Network}
use Rattle.flood.specs.Frames.{IsFrame}
use Rattle.control_channels.specs.declared.inputs.CoreInput.TheVariants as input
use Rattle.world_merge.specs.Deeds.{Deed, Handled, Heard, Posted, Ticked, Took}
use Rattle.station_rings.specs.{Links.LinkView, Stations.{IsSound, StationView}, Steps.{HasReacted, IsDelivery}}
use Rattle.station_rings.proofs.{Besides.{listening-is-no-deed, posts-are-deeds}, Events.{frames-are-deeds, items-are-deeds, noise-is-a-deed, ticks-are-deeds}}
use Rattle.round_rules.specs.{Doings.{Did, Doing, Freed, Got, Left, Lost, deeds_in}, Functions.{clock_of, with_delivered}, Held.{held_after, held_by_line, held_step, ticked_once}, Parts.{DeliveriesStand, FreeingStands, HoldingStands, ItemsStand, LeavingStands, ListeningStands, LosingStands, NoiseStands, PostsStand, TakingStands, TicksStand}, Stands.{HoldingStation, IsHeldOf, StandsBy, frame_of}, declared.held.HeldParcel.HeldParcel}
use Rattle.round_rules.proofs.{Desks.deeds-more, Keeping.{clock-did, clock-same, deeds-same, frames-dropped, frames-more, frames-ticked, kept-dropped, kept-listening, kept-more, kept-sending, kept-ticked, none-held}}

-- what is held after more was done
held_more : (ds es : List Doing) → held_after [] (ds ++ es) ≡ held_after (held_after [] ds) es
held_more ds es = fold-append held_step [] ds es

-- one deed more, at the clock as it is now
deed-done : (ds : List Doing) (e : ℕ → Deed) (clock : ℕ) → clock ≡ clock_of ds + 1 →
    deeds_in (ds ++ Did (e (clock_of ds + 1)) ∷ []) ≡ deeds_in ds ++ e clock ∷ []
deed-done ds e clock now =
    deeds-more ds (Did (e (clock_of ds + 1)) ∷ []) ∙ ap (λ k. deeds_in ds ++ e k ∷ []) (sym now)

-- The tick and the desk

pub ticks-stand : TicksStand
ticks-stand t n ds old new is r desk clock held = record {
  sound =
      subst (λ xs. IsSound t n xs new.station) (sym (deed-done ds (λ k. Ticked k) new.station.clock now))
      (ticks-are-deeds t n (deeds_in ds) old.station new.station is.sound r desk clock);
  clock = now ∙ sym (clock-did ds (Ticked (clock_of ds + 1)));
  held =
      ap (map frame_of) held ∙ frames-ticked old.held ∙ ap (map ticked_once) is.held
      ∙ sym (held_more ds (Did (Ticked (clock_of ds + 1)) ∷ []));
  kept =
      subst (AllByRecursion (IsHeldOf new.station.links)) (sym held) (kept-ticked new.station.links old.held
      (kept-sending new.station.clock r.frames old.station.links new.station.links old.held r.links is.kept));
}
  where
    now : new.station.clock ≡ clock_of ds + 1
    now = clock ∙ ap (λ k. k + 1) is.clock

pub items-stand : ItemsStand
items-stand t n ds i old new is r desk clock held = record {
  sound =
      subst (λ xs. IsSound t n xs new.station) (sym (deed-done ds (λ k. Handled k) new.station.clock now))
      (items-are-deeds t n (deeds_in ds) i old.station new.station is.sound r desk clock);
  clock = now ∙ sym (clock-did ds (Handled (clock_of ds + 1)));
  held = ap (map frame_of) held ∙ is.held ∙ sym (held_more ds (Did (Handled (clock_of ds + 1)) ∷ []));
  kept =
      subst (AllByRecursion (IsHeldOf new.station.links)) (sym held)
      (kept-sending new.station.clock r.frames old.station.links new.station.links old.held r.links is.kept);
}
  where
    now : new.station.clock ≡ clock_of ds + 1
    now = clock ∙ ap (λ k. k + 1) is.clock

-- Taking

pub listening-stands : ListeningStands
listening-stands t n ds old new is h held = record {
  sound = listening-is-no-deed t n (deeds_in ds) old.station new.station is.sound h;
  clock = h.clock ∙ is.clock;
  held = ap (map frame_of) held ∙ is.held;
  kept =
      subst (AllByRecursion (IsHeldOf new.station.links)) (sym held)
      (kept-listening old.station.links new.station.links old.held h.links is.kept);
}

-- what is no deed, and leaves what is held
unmoved : (t : Network) (n : NodeId) (ds es : List Doing) (s : HoldingStation) → StandsBy t n ds s →
    deeds_in es ≡ [] → held_after (held_after [] ds) es ≡ held_after [] ds → StandsBy t n (ds ++ es) s
unmoved t n ds es s is none same = record {
  sound = subst (λ xs. IsSound t n xs s.station) (sym (deeds-same ds es none)) is.sound;
  clock = is.clock ∙ sym (clock-same ds es none);
  held = is.held ∙ sym (held_more ds es ∙ same);
  kept = is.kept;
}

pub taking-stands : TakingStands
taking-stands t n ds s p o is not =
    unmoved t n ds (Got p.from p.number o ∷ []) s is refl (none-held o p.from p.number (held_after [] ds) not)

pub holding-stands : HoldingStands
holding-stands t n ds old new q p is station came number held = record {
  sound =
      subst (λ xs. IsSound t n xs new.station) (sym (deeds-same ds taking refl))
      (subst (IsSound t n (deeds_in ds)) (sym station) is.sound);
  clock = ap (λ (v : StationView). v.clock) station ∙ is.clock ∙ sym (clock-same ds taking refl);
  held =
      ap (map frame_of) held ∙ frames-more old.held parcel
      ∙ ap (λ k. map frame_of old.held ++ record { from = p.from; number = k; ticks = 0 } ∷ []) number
      ∙ ap (λ xs. xs ++ held_by_line p.from p.number (Some Hold)) is.held ∙ sym (held_more ds taking);
  kept =
      subst (AllByRecursion (IsHeldOf new.station.links)) (sym held)
      (subst (λ (v : StationView). AllByRecursion (IsHeldOf v.links) (old.held ++ parcel ∷ [])) (sym station)
      (kept-more old.station.links old.held parcel is.kept came));
}
  where
    taking : List Doing
    taking = Got p.from p.number (Some Hold) ∷ []

    parcel : HeldParcel
    parcel = record { from = p.from; parcel = q; ticks = 0 }

pub freeing-stands : FreeingStands
freeing-stands t n ds old new is station held = record {
  sound =
      subst (λ xs. IsSound t n xs new.station) (sym (deeds-same ds (Freed ∷ []) refl))
      (subst (IsSound t n (deeds_in ds)) (sym station) is.sound);
  clock = ap (λ (v : StationView). v.clock) station ∙ is.clock ∙ sym (clock-same ds (Freed ∷ []) refl);
  held =
      ap (map frame_of) held ∙ frames-dropped old.held ∙ ap (drop 1) is.held ∙ sym (held_more ds (Freed ∷ []));
  kept =
      subst (AllByRecursion (IsHeldOf new.station.links)) (sym held)
      (subst (λ (v : StationView). AllByRecursion (IsHeldOf v.links) (drop 1 old.held)) (sym station)
      (kept-dropped old.station.links old.held is.kept));
}

-- Delivering

pub deliveries-stand : DeliveriesStand
deliveries-stand t n ds old new q p is number stamp d = record {
  sound = subst (λ xs. IsSound t n xs new.station) (sym deeds) sound;
  clock = now ∙ sym (clock-did ds (Took s p.from p.number p.content));
  held = ap (map frame_of) d.held ∙ is.held ∙ sym (held_more ds (Did (Took s p.from p.number p.content) ∷ []));
  kept =
      subst (AllByRecursion (IsHeldOf new.station.links)) (sym d.held)
      (kept-sending new.station.clock d.reacted.frames old.station.links new.station.links old.held
      d.reacted.links is.kept);
}
  where
    s : ℕ
    s = max (clock_of ds) p.stamp + 1

    now : new.station.clock ≡ s
    now = d.clock ∙ ap (λ k. max k q.stamp + 1) is.clock ∙ ap (λ k. max (clock_of ds) k + 1) stamp

    below : (a b c : ℕ) → c ≡ max a b + 1 → b < c
    below a b c e = grind (arith, e)

    l : LinkView
    l = d.came.link

    delivery : IsDelivery n old.station new.station l q p.content
    delivery = record {
      link = d.came.there;
      came = d.came.came;
      brought = record {
        number = refl;
        before = below old.station.clock q.stamp new.station.clock d.clock;
        spells = subst (IsFrame q.frame) d.content d.came.spells;
        one = d.one;
      };
      clock = d.clock;
      reacted =
          subst (λ (u : NodeId). HasReacted n old.station new.station (input.Frame u q.frame) (Deliver n u q.number))
          (sym d.came.peer) d.reacted;
      desk = d.desk;
    }

    sound : IsSound t n (deeds_in ds ++ Took new.station.clock l.peer q.number p.content ∷ []) new.station
    sound = frames-are-deeds t n (deeds_in ds) old.station new.station l q p.content is.sound delivery

    deeds : deeds_in (with_delivered ds p) ≡ deeds_in ds ++ Took new.station.clock l.peer q.number p.content ∷ []
    deeds =
        deeds-more ds (Did (Took s p.from p.number p.content) ∷ [])
        ∙ (λ i. deeds_in ds ++ Took (sym now i) (sym d.came.peer i) (sym number i) p.content ∷ [])

-- What a turn couldn't do

pub losing-stands : LosingStands
losing-stands t n ds s u k is = unmoved t n ds (Lost u k ∷ []) s is refl refl

pub leaving-stands : LeavingStands
leaving-stands t n ds s w is = unmoved t n ds (Left w ∷ []) s is refl refl

-- Beside a turn

pub noise-stands : NoiseStands
noise-stands t n ds l bytes old new is r clock held = record {
  sound =
      subst (λ xs. IsSound t n xs new.station) (sym deeds)
      (noise-is-a-deed t n (deeds_in ds) old.station new.station l bytes is.sound r clock);
  clock = now ∙ sym (clock-did ds (Heard (clock_of ds + 1) l.peer bytes));
  held = ap (map frame_of) held ∙ is.held ∙ sym (held_more ds (Did (Heard (clock_of ds + 1) l.peer bytes) ∷ []));
  kept =
      subst (AllByRecursion (IsHeldOf new.station.links)) (sym held)
      (kept-sending new.station.clock r.reacted.frames old.station.links new.station.links old.held
      r.reacted.links is.kept);
}
  where
    now : new.station.clock ≡ clock_of ds + 1
    now = clock ∙ ap (λ k. k + 1) is.clock

    deeds : deeds_in (ds ++ Did (Heard (clock_of ds + 1) l.peer bytes) ∷ []) ≡
        deeds_in ds ++ Heard new.station.clock l.peer bytes ∷ []
    deeds =
        deeds-more ds (Did (Heard (clock_of ds + 1) l.peer bytes) ∷ [])
        ∙ ap (λ k. deeds_in ds ++ Heard k l.peer bytes ∷ []) (sym now)

pub posts-stand : PostsStand
posts-stand t n ds c old new is p held = record {
  sound =
      subst (λ xs. IsSound t n xs new.station) (sym (deeds-more ds (Did (Posted new.station.clock c) ∷ [])))
      (posts-are-deeds t n (deeds_in ds) c old.station new.station is.sound p);
  clock = sym (clock-did ds (Posted new.station.clock c));
  held = ap (map frame_of) held ∙ is.held ∙ sym (held_more ds (Did (Posted new.station.clock c) ∷ []));
  kept =
      subst (λ ls. AllByRecursion (IsHeldOf ls) new.held) (sym p.links)
      (subst (AllByRecursion (IsHeldOf old.station.links)) (sym held) is.kept);
}
