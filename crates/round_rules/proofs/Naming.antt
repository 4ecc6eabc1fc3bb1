-- A line more that names a frame.
use Rattle.std.proofs.Common.{◌≡◌, ℕ, Bool, true, false, cond, nat_eq, List, [], ◌∷◌, ◌++◌, refl, sym, ap, ◌∙◌, subst}
use Rattle.std.specs.{Prelude.{◌&&◌, None, Option, Some, fold}, List.Contains}
use Rattle.ason_base.specs.{declared.ids.NodeId.NodeId, declared.commands.Disturb.Disturb, declared.commands.DisturbKind.DisturbKind, Network.Network}
use Rattle.round_rules.specs.{Lines.{names_frame, says}, OneWorker.ids_of, Records.Record, States.StationState, Commands.{LinesStandFor, TakesLine}, Fleets.{IsStationAt, Wires}}
use Rattle.round_rules.proofs.Replacing.{zip-places}

fold_more : {X Y : Type 0} (f : Y → X → Y) (y : Y) (xs : List X) (x : X) → fold f y (xs ++ x ∷ []) ≡ f (fold f y xs) x
fold_more f y [] x = refl
fold_more f y (z ∷ xs) x = fold_more f (f y z) xs x

-- what one line more says of a frame
says_more : (lines : List Disturb) (d : Disturb) (u n : NodeId) (k : ℕ) →
    says (lines ++ d ∷ []) u n k ≡ cond (names_frame u n k d) (Some d.kind) (says lines u n k)
says_more lines d u n k =
    fold_more (λ (o : Option DisturbKind) (l : Disturb). cond (names_frame u n k l) (Some l.kind) o) None lines d

-- a line of another node says nothing
other_line : {A : Type 0} (a b c : Bool) (x y : A) → b ≡ false → cond (a && (b && c)) x y ≡ y
other_line true true c x y e = absurd (cc (e))
other_line true false c x y e = refl
other_line false b c x y e = refl

module _ (t : Network) (lines : List Disturb) (d : Disturb) (r : Record) (w : Wires) where
  station : (n : NodeId) (x y : StationState) → Contains (ids_of t) n → IsStationAt t lines r w n x →
      TakesLine d n x y → IsStationAt t (lines ++ d ∷ []) r w n y
  station n x y there is takes = go (nat_eq d.to.0 n.0) refl
    where
      go : (b : Bool) → nat_eq d.to.0 n.0 ≡ b → IsStationAt t (lines ++ d ∷ []) r w n y
      go true e = subst (IsStationAt t (lines ++ d ∷ []) r w n) (sym (takes.there e)) (record {
        station = record { stands = is.station.stands; taken = is.station.taken };
        links = is.links;
        told = λ u k. says_more x.lines d u n k
            ∙ ap (λ o. cond (names_frame u n k d) (Some d.kind) o) (is.told u k) ∙ sym (says_more lines d u n k);
      })
      go false e = subst (IsStationAt t (lines ++ d ∷ []) r w n) (sym (takes.others e)) (record {
        station = is.station;
        links = is.links;
        told = λ u k. is.told u k
            ∙ sym (other_line (nat_eq d.from.0 u.0) (nat_eq d.to.0 n.0) (nat_eq d.k k) (Some d.kind)
            (says lines u n k) e)
            ∙ sym (says_more lines d u n k);
      })

-- A station that has one line more stands for what its node did, and so do the others.
pub lines-stand-for : LinesStandFor
lines-stand-for t lines d r w xs ys all count each = record {
  valid = all.valid;
  each =
      zip-places (IsStationAt t lines r w) (TakesLine d) (IsStationAt t (lines ++ d ∷ []) r w) (ids_of t)
      (station t lines d r w) (ids_of t) xs ys (λ n there. there) all.each count each;
  rings = all.rings;
  nowhere = all.nowhere;
  posts = all.posts;
}
