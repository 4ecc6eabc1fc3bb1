-- What a link is after frames were sent over it.
use Rattle.std.proofs.{Common.{◌≡◌, ◌<◌, ◌≤◌, ◌+◌, ℕ, suc, Bool, true, false, cond, nat_eq, nat_lt, List, [], ◌∷◌, ◌++◌, length, map, filter, refl, sym, ap, ◌∙◌, subst, arith, append_assoc}, lemmas.List.length-append, ByRecursion.All-append}
use Rattle.std.specs.{Prelude.{slice_get, Some}, List.AllByRecursion}
use Rattle.ason_base.specs.{declared.limits.TheConstants.MOST_FRAMES, declared.ids.NodeId.NodeId}
use Rattle.flood.specs.{declared.frames.Content.Content, Frames.{IsFrame, frame_bytes}}
use Rattle.control_channels.specs.Frames.{Sending, frames_to}
use Rattle.world_rules.specs.{Standing.contents_to, Worlds.numbered_at}
use Rattle.station_rings.specs.{declared.parcel.Parcel.Parcel, Links.{LinkView, link_after_frames, is_link_view_to, with_parcel}}
use Rattle.ason_base.proofs.Numbers.{number-flip}

-- these go over the link, one after the other
abbrev pub with_all : NodeId → ℕ → List Content → LinkView → LinkView
with_all me s [] l = l
with_all me s (p ∷ ps) l = with_all me s ps (with_parcel s (frame_bytes me p) l)

-- of frames to all neighbours those to the link's go over it
pub all-sent : (me : NodeId) (stamp : ℕ) (ss : List Sending) (l : LinkView) →
    link_after_frames stamp (frames_to me ss) l ≡ with_all me stamp (contents_to l.peer.0 ss) l
all-sent me stamp [] l = refl
all-sent me stamp (s ∷ ss) l = go (is_link_view_to s.to l) refl (all-sent me stamp ss)
  where
    packets : (b : Bool) → nat_eq s.to.0 l.peer.0 ≡ b →
        contents_to l.peer.0 (s ∷ ss) ≡ cond b (s.content ∷ contents_to l.peer.0 ss) (contents_to l.peer.0 ss)
    packets true h = rw h refl
    packets false h = rw h refl

    go : (b : Bool) → is_link_view_to s.to l ≡ b →
        ((k : LinkView) → link_after_frames stamp (frames_to me ss) k ≡ with_all me stamp (contents_to k.peer.0 ss) k) →
        link_after_frames stamp (frames_to me ss) (cond b (with_parcel stamp (frame_bytes me s.content) l) l) ≡
        with_all me stamp (contents_to l.peer.0 (s ∷ ss)) l
    go true e rest =
        rest (with_parcel stamp (frame_bytes me s.content) l)
        ∙ sym (ap (λ ps. with_all me stamp ps l) (packets true (number-flip l.peer.0 s.to.0 true e)))
    go false e rest =
        rest l ∙ sym (ap (λ ps. with_all me stamp ps l) (packets false (number-flip l.peer.0 s.to.0 false e)))

-- each of these is spelled by its frame
abbrev pub AreSpelled : NodeId → List Content → Type 0
AreSpelled me ps = AllByRecursion (λ (p : Content). IsFrame (frame_bytes me p) p) ps

-- so are those to one neighbour
pub spelled-to : (me : NodeId) (d : ℕ) (ss : List Sending) →
    AllByRecursion (λ (s : Sending). IsFrame (frame_bytes me s.content) s.content) ss → AreSpelled me (contents_to d ss)
spelled-to me d [] all = tt
spelled-to me d (s ∷ ss) all = go (nat_eq s.to.0 d) (spelled-to me d ss all.1)
  where
    go : (b : Bool) → AreSpelled me (contents_to d ss) →
        AreSpelled me (map (λ (r : Sending). r.content) (cond b (s ∷ filter (λ r. nat_eq r.to.0 d) ss)
        (filter (λ r. nat_eq r.to.0 d) ss)))
    go true rest = (all.0, rest)
    go false rest = rest

-- a new parcel: with this stamp, and the frame of its number in these contents, of which so many were sent before
pub record IsParcelNew (before : ℕ) (contents : List Content) (stamp : ℕ) (p : Parcel) : Type 0 where
  pub stamp_is : p.stamp ≡ stamp
  pub later : before < p.number
  pub content : Content
  pub there : numbered_at contents p.number ≡ Some content
  pub spells : IsFrame p.frame content

-- The link's frames are counted, and P is so of each parcel that went into its ring.
pub record IsSentAll (P : Parcel → Type 0) (count : ℕ) (l k : LinkView) : Type 0 where
  pub sent : k.sent ≡ count
  pub gone : AllByRecursion P k.gone
  pub peer : k.peer ≡ l.peer
  pub came : k.came ≡ l.came

at_end : {X : Type 0} (base rest : List X) (x : X) → slice_get (base ++ x ∷ rest) (length base) ≡ Some x
at_end [] rest x = refl
at_end (y ∷ base) rest x = at_end base rest x

numbered_end : (base rest : List Content) (c : Content) (n : ℕ) → length base ≡ n →
    numbered_at (base ++ c ∷ rest) (n + 1) ≡ Some c
numbered_end base rest c n same =
    let next : suc (length base) ≡ n + 1 = omega arith in
    subst (λ k. numbered_at (base ++ c ∷ rest) k ≡ Some c) next (at_end base rest c)

-- What is so of each new parcel and was so of those before is so of all.
pub sends-all : (P : Parcel → Type 0) (me : NodeId) (stamp before : ℕ) (ps : List Content) (n : ℕ)
    (base contents : List Content) (l : LinkView) → before ≤ n → length base ≡ n → contents ≡ base ++ ps →
    AreSpelled me ps → ((p : Parcel) → IsParcelNew before contents stamp p → P p) → l.sent ≡ n →
    AllByRecursion P l.gone →
    IsSentAll P (n + length ps) l (with_all me stamp ps l)
sends-all P me stamp before [] n base contents l past same whole spelled new sent gone =
    record { sent = omega (arith, sent); gone = gone; peer = refl; came = refl }
sends-all P me stamp before (p ∷ ps) n base contents l past same whole spelled new sent gone =
    let rest =
    sends-all P me stamp before ps (n + 1) (base ++ p ∷ []) contents (with_parcel stamp (frame_bytes me p) l)
    (omega (arith, past)) (rw length-append (ap (λ k. k + 1) same)) (whole ∙ sym (append_assoc base (p ∷ []) ps))
    spelled.1 new (ap (λ k. k + 1) sent) (put (nat_lt l.standing MOST_FRAMES)) in
    record { sent = rest.sent ∙ counted; gone = rest.gone; peer = rest.peer; came = rest.came }
  where
    counted : (n + 1) + length ps ≡ n + suc (length ps)
    counted = omega arith

    parcel : Parcel
    parcel = record { number = l.sent + 1; stamp = stamp; frame = frame_bytes me p }

    is : P parcel
    is = new parcel (record {
      stamp_is = refl;
      later = omega (arith, past, sent);
      content = p;
      there =
          ap (λ k. numbered_at contents (k + 1)) sent ∙ ap (λ cs. numbered_at cs (n + 1)) whole
          ∙ numbered_end base ps p n same;
      spells = spelled.0;
    })

    put : (b : Bool) → AllByRecursion P (cond b (l.gone ++ parcel ∷ []) l.gone)
    put true = All-append P l.gone (parcel ∷ []) gone (is, tt)
    put false = gone
