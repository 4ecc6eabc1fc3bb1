-- What was sent to a node stays so when more is done.
use Rattle.std.proofs.Common.{◌≡◌, ◌<◌, ◌≤◌, ℕ, List, [], ◌∷◌, ◌++◌, length, sym, ap, ◌∙◌, arith, append-nil, append_assoc}
use Rattle.std.specs.List.{AllByRecursion}
use Rattle.ason_base.specs.{declared.ids.NodeId.NodeId, Network.Network}
use Rattle.hop_reliable.proofs.Members.{each-more}
use Rattle.flood.specs.declared.frames.Content.{Content}
use Rattle.world_rules.specs.Worlds.{world_start}
use Rattle.world_merge.specs.{Deeds.{Deed, alone, alone_from, sent_by}, Stamps.sent_stamp}
use Rattle.world_merge.proofs.{Growing.deeds-grow, Splitting.alone-more, Stamps.{longer, sent-stays}}
use Rattle.round_rules.specs.{Functions.Popped, Doings.deeds_in, Records.{Record, deeds_at}, Rounds.WasSentTo, Fleets.HasGrown}
use Rattle.round_rules.proofs.Desks.{deeds-more}

-- No fewer frames were sent once a node has done more.
pub sent-more : (t : Network) (u : NodeId) (ds es : List Deed) (d : ℕ) →
    length (sent_by t u ds d) ≤ length (sent_by t u (ds ++ es) d)
sent-more t u ds es d = omega (arith, more, all_is)
  where
    grown : List Content
    grown = (alone_from t u (alone t u ds) es).channels u.0 d

    more : length (sent_by t u ds d) ≤ length grown
    more = longer (sent_by t u ds d) grown (deeds-grow t u (alone t u ds) es u.0 d)

    all_is : length (sent_by t u (ds ++ es) d) ≡ length grown
    all_is = ap (λ w. length (w.channels u.0 d)) (alone-more t u (world_start t) ds es)

-- and each with the same stamp
stamp_more : (t : Network) (u : NodeId) (d k : ℕ) (ds es : List Deed) → 0 < k → k ≤ length (sent_by t u ds d) →
    sent_stamp t u (ds ++ es) d k ≡ sent_stamp t u ds d k
stamp_more t u d k ds [] some within = ap (λ xs. sent_stamp t u xs d k) (append-nil ds)
stamp_more t u d k ds (e ∷ es) some within =
    ap (λ xs. sent_stamp t u xs d k) (sym (append_assoc ds (e ∷ []) es))
    ∙ stamp_more t u d k (ds ++ e ∷ []) es some (let more = sent-more t u ds (e ∷ []) d in omega (arith, within, more))
    ∙ sent-stays t u d k ds e some within

-- A frame that was sent to a node was, when nodes have done more.
pub sent-on : (t : Network) (r after : Record) (n : NodeId) → ((m : ℕ) → HasGrown r after m) → (ps : List Popped) →
    AllByRecursion (WasSentTo t r n) ps → AllByRecursion (WasSentTo t after n) ps
sent-on t r after n grown ps all = each-more (WasSentTo t r n) (WasSentTo t after n) one ps all
  where
    deeds_are : (p : Popped) →
        deeds_at after p.from.0 ≡ deeds_at r p.from.0 ++ deeds_in (grown p.from.0).added
    deeds_are p = ap deeds_in (grown p.from.0).all ∙ deeds-more (r.doings p.from.0) (grown p.from.0).added

    one : (p : Popped) → WasSentTo t r n p → WasSentTo t after n p
    one p is = record {
      joined = is.joined;
      some = is.some;
      within =
          let within = is.within in
          let more = sent-more t p.from (deeds_at r p.from.0) (deeds_in (grown p.from.0).added) n.0 in
          let all_is = ap (λ ds. length (sent_by t p.from ds n.0)) (deeds_are p) in
          omega (arith, within, more, all_is);
      stamp =
          is.stamp
          ∙ sym (stamp_more t p.from n.0 p.number (deeds_at r p.from.0) (deeds_in (grown p.from.0).added) is.some
          is.within)
          ∙ ap (λ ds. sent_stamp t p.from ds n.0 p.number) (sym (deeds_are p));
    }
