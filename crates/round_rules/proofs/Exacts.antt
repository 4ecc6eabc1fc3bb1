-- The frames that stand in a ring, as they are popped.
use Rattle.std.proofs.Common.{◌≡◌, ℕ, true, List, [], ◌∷◌, ◌++◌, refl, sym, ap, ◌∙◌, subst}
use Rattle.std.specs.{Prelude.{Option, Some}, List.{AllByRecursion, AllZip, flat_map}}
use Rattle.ason_base.specs.{declared.ids.NodeId.NodeId, Network.Network}
use Rattle.ason_base.proofs.Bools.{and-right}
use Rattle.flood.specs.declared.frames.Content.{Content}
use Rattle.world_rules.specs.{WorldRuns.{is_world_channel, may_act}, Worlds.{World, numbered_at, world_start}}
use Rattle.world_merge.specs.{Deeds.{AreDoable, Deed, Handled, Heard, Posted, Ticked, Took, alone, alone_from, done, sent_by, upto}, Histories.{AreGenuine, Histories}, Stamps.sent_stamp}
use Rattle.world_merge.proofs.{Growing.{Grows, deeds-grow}, Splitting.alone-more, Sendings.numbered_more}
use Rattle.station_rings.specs.{declared.parcel.Parcel.Parcel, Parcels.IsSentOf}
use Rattle.station_rings.proofs.Deeds.{UptoRest, upto-rest}
use Rattle.round_rules.specs.{Functions.Popped, OneWorker.{popped_as, popped_of}, Records.{Record, deeds_at}, States.parcel_numbers, Turned.IsPoppedAs}
use Rattle.round_rules.proofs.Contents.{BearsSent, IsSameFrame, IsSent}

-- What was sent up to a stamp stays there

-- What was sent by a stamp is sent once all is done.
pub sent-whole : (t : Network) (u : NodeId) (ds : List Deed) (s k d : ℕ) (x : Content) →
    numbered_at (sent_by t u (upto s ds) d) k ≡ Some x → numbered_at (sent_by t u ds d) k ≡ Some x
sent-whole t u ds s k d x is =
    ap (λ cs. numbered_at cs k) (ap (λ xs. sent_by t u xs d) rest.all
    ∙ ap (λ (w : World). w.channels u.0 d) (alone-more t u (world_start t) (upto s ds) rest.rest) ∙ grown.whole)
    ∙ numbered_more (sent_by t u (upto s ds) d) grown.more k x is
  where
    rest : UptoRest s ds
    rest = upto-rest s ds

    grown : Grows (sent_by t u (upto s ds) d) ((alone_from t u (alone t u (upto s ds)) rest.rest).channels u.0 d)
    grown = deeds-grow t u (alone t u (upto s ds)) rest.rest u.0 d

-- what u sent to n, by a record
abbrev pub sent_in_record : Network → Record → NodeId → NodeId → ℕ → Option Content
sent_in_record t r n u k = numbered_at (sent_by t u (deeds_at r u.0) n.0) k

-- the parcel as it is popped
pub record IsExact (t : Network) (r : Record) (n u : NodeId) (q : Parcel) (e : Popped) : Type 0 where
  pub from : e.from ≡ u
  pub number : e.number ≡ q.number
  pub stamp : e.stamp ≡ q.stamp
  pub sent : IsSent (sent_in_record t r n) e

pub record Exactly (t : Network) (r : Record) (n u : NodeId) (q : Parcel) : Type 0 where
  pub popped : Popped
  pub is : IsExact t r n u q popped
  pub one : popped_of t r n u q.number ≡ popped ∷ []

-- A parcel that was sent is popped just so.
pub exactly : (t : Network) (r : Record) (n u : NodeId) (q : Parcel) → IsSentOf t u (deeds_at r u.0) n q →
    Exactly t r n u q
exactly t r n u q is = record {
  popped = record { from = u; number = q.number; stamp = stamp; content = is.content };
  is = record { from = refl; number = refl; stamp = sym is.exact; sent = there };
  one = ap (popped_as u q.number stamp) there;
}
  where
    stamp : ℕ
    stamp = sent_stamp t u (deeds_at r u.0) n.0 q.number

    there : sent_in_record t r n u q.number ≡ Some is.content
    there = sent-whole t u (deeds_at r u.0) q.stamp q.number n.0 is.content is.there

-- all of these parcels are
pub all-exact : (t : Network) (r : Record) (n u : NodeId) (qs : List Parcel) →
    AllByRecursion (IsSentOf t u (deeds_at r u.0) n) qs →
    AllZip (IsExact t r n u) qs (flat_map (popped_of t r n u) (parcel_numbers qs))
all-exact t r n u [] all = tt
all-exact t r n u (q ∷ qs) all =
    let e = exactly t r n u q all.0 in
    subst (λ ps. AllZip (IsExact t r n u) (q ∷ qs) (ps ++ flat_map (popped_of t r n u) (parcel_numbers qs))) (sym e.one)
    (e.is, all-exact t r n u qs all.1)

-- Frames that were popped are the same

-- What was popped of parcels is the same as they are, and bears what was sent.
pub same-frames : (t : Network) (r : Record) (n u v : NodeId) (qs : List Parcel) (ps es : List Popped) → v ≡ u →
    AllZip (IsPoppedAs v) qs ps → AllZip (IsExact t r n u) qs es →
    AllZip IsSameFrame ps es × AllByRecursion (IsSent (sent_in_record t r n)) es
same-frames t r n u v [] [] [] same f g = (tt, tt)
same-frames t r n u v [] [] (e ∷ es) same f g = absurd g
same-frames t r n u v [] (p ∷ ps) es same f g = absurd f
same-frames t r n u v (q ∷ qs) [] es same f g = absurd f
same-frames t r n u v (q ∷ qs) (p ∷ ps) [] same f g = absurd g
same-frames t r n u v (q ∷ qs) (p ∷ ps) (e ∷ es) same f g =
    let rest = same-frames t r n u v qs ps es same f.1 g.1 in (
      (
        record {
          from = f.0.from_it ∙ same ∙ sym g.0.from;
          number = f.0.number ∙ sym g.0.number;
          stamp = f.0.stamp ∙ sym g.0.stamp;
        },
        rest.0,
      ),
      (g.0.sent, rest.1),
    )

-- What a node took bears what was sent

-- What a node took bears what was sent, where all of it was genuine.
pub bears-sent : (t : Network) (r : Record) (hists : Histories) (n : NodeId) (w : World) (ds : List Deed) →
    ((u : NodeId) → is_world_channel t u n ≡ true → hists u.0 ≡ deeds_at r u.0) → AreDoable t n w ds →
    AreGenuine t hists n.0 ds → AllByRecursion (BearsSent (sent_in_record t r n)) ds
bears-sent t r hists n w [] same may real = tt
bears-sent t r hists n w (Ticked s ∷ ds) same may real =
    (tt, bears-sent t r hists n (done t n w (Ticked s)) ds same may.1 real.1)
bears-sent t r hists n w (Handled s ∷ ds) same may real =
    (tt, bears-sent t r hists n (done t n w (Handled s)) ds same may.1 real.1)
bears-sent t r hists n w (Heard s u bytes ∷ ds) same may real =
    (tt, bears-sent t r hists n (done t n w (Heard s u bytes)) ds same may.1 real.1)
bears-sent t r hists n w (Posted s c ∷ ds) same may real =
    (tt, bears-sent t r hists n (done t n w (Posted s c)) ds same may.1 real.1)
bears-sent t r hists n w (Took s u k x ∷ ds) same may real = (
  ap (λ xs. numbered_at (sent_by t u xs n.0) k)
      (sym (same u (and-right (may_act t w n) (is_world_channel t u n) may.0)))
      ∙ sent-whole t u (hists u.0) real.0.0 k n.0 x real.0.2,
  bears-sent t r hists n (done t n w (Took s u k x)) ds same may.1 real.1,
)
