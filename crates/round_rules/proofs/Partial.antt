-- Rings while some nodes of a round made their parts, and the others did nothing.
use Rattle.std.proofs.Common.{◌≡◌, ◌≤◌, ℕ, Bool, true, false, not, nat_eq, List, [], ◌∷◌, ◌++◌, length, refl, sym, ap, ◌∙◌, subst, arith}
use Rattle.std.specs.{Prelude.◌||◌, List.range_with_len}
use Rattle.ason_base.specs.{Network.Network, declared.commands.Disturb.Disturb, declared.ids.NodeId.NodeId}
use Rattle.world_merge.specs.Deeds.{sent_by}
use Rattle.round_rules.specs.{Doings.deeds_in, Records.Record, Rings.{count_of, got_from, handed, is_number_in, standing, without_numbers}, FleetOneWorker.{IsPartRound, is_node_among}}
use Rattle.round_rules.proofs.{Desks.deeds-more, Numbers.got-append, Handing.handed-later, FleetNumbers.{in-without, in_filter, rises-all, without-fewer}, MadeTurns.{MadeTurn, made-turn}, SentOn.sent-more}

module _ (t : Network) (lines : List Disturb) (before q : Record) (ns : List NodeId)
    (part_of : IsPartRound t lines before q ns) where
  -- what a node that made its part added
  made : (n : NodeId) (e : is_node_among ns n.0 ≡ true) →
      MadeTurn t lines n true (before.doings n.0) (q.doings n.0) (part_of.nodes n e).pops
  made n e =
      let p = part_of.nodes n e in
      made-turn t lines n true (before.doings n.0) (q.doings n.0) p.due p.pops p.held p.turn

  counts : (u d : NodeId) (b : Bool) → is_node_among ns u.0 ≡ b → count_of t before u d ≤ count_of t q u d
  counts u d true e =
      let p = made u e in
      subst (λ ds. count_of t before u d ≤ length (sent_by t u ds d.0))
      (sym (ap deeds_in p.all ∙ deeds-more (before.doings u.0) p.added))
      (sent-more t u (deeds_in (before.doings u.0)) (deeds_in p.added) d.0)
  counts u d false e =
      subst (λ ds. count_of t before u d ≤ length (sent_by t u (deeds_in ds) d.0)) (sym (part_of.others u.0 e))
      (omega arith)

  -- what had been handed over still is
  pub handed-still : (u d : NodeId) (k : ℕ) → is_number_in (handed t before u d) k ≡ true →
      is_number_in (handed t q u d) k ≡ true
  handed-still u d k h =
      let dr = part_of.drops u d in
      ap (λ ks. is_number_in (without_numbers ks (range_with_len 1 (count_of t q u d))) k) dr.all
      ∙ handed-later (before.dropped u.0 d.0) dr.more (count_of t before u d) (count_of t q u d) k
      (counts u d (is_node_among ns u.0) refl) (rises-all (count_of t before u d) dr.more dr.later) h

  -- what stood in a ring of a node that did nothing still does
  pub standing-still : (u n : NodeId) → is_node_among ns n.0 ≡ false → (k : ℕ) →
      is_number_in (standing t before u n) k ≡ true →
      is_number_in (standing t q u n) k ≡ true
  standing-still u n none k h =
      ap (λ ds. is_number_in (without_numbers (got_from u ds) (handed t q u n)) k) (part_of.others n.0 none)
      ∙ in-without (got_from u (before.doings n.0)) (handed t q u n) k
      (negated (is_number_in (got_from u (before.doings n.0)) k)
      found.0) (handed-still u n k found.1)
    where
      found : (not (is_number_in (got_from u (before.doings n.0)) k) ≡ true)
          × (is_number_in (handed t before u n) k ≡ true)
      found = in_filter (λ j. not (is_number_in (got_from u (before.doings n.0)) j)) (handed t before u n) k h

      negated : (b : Bool) → not b ≡ true → b ≡ false
      negated true e = absurd (cc (e))
      negated false e = refl

  -- and in a ring from it no more stands than did
  pub standing-fewer : (n d : NodeId) → is_node_among ns n.0 ≡ false → (b : Bool) → is_node_among ns d.0 ≡ b →
      length (standing t q n d) ≤ length (standing t before n d)
  standing-fewer n d none b e =
      subst (λ ks. length (without_numbers (got_from n (q.doings d.0)) ks) ≤ length (standing t before n d)) (sym same)
      (go b e)
    where
      same : handed t q n d ≡ handed t before n d
      same = λ i. without_numbers (part_of.still n d none i)
          (range_with_len 1 (length (sent_by t n (deeds_in (part_of.others n.0 none i)) d.0)))

      go : (b : Bool) → is_node_among ns d.0 ≡ b →
          length (without_numbers (got_from n (q.doings d.0)) (handed t before n d)) ≤ length (standing t before n d)
      go true e =
          let p = made d e in
          subst (λ ks. length (without_numbers ks (handed t before n d)) ≤ length (standing t before n d))
          (sym (ap (got_from n) p.all ∙ got-append n (before.doings d.0) p.added))
          (without-fewer (got_from n (before.doings d.0)) (got_from n p.added) (handed t before n d))
      go false e =
          subst (λ ds. length (without_numbers (got_from n ds) (handed t before n d)) ≤ length (standing t before n d))
          (sym (part_of.others d.0 e)) (omega arith)

pub among-more : (ns : List NodeId) (n : NodeId) (m : ℕ) →
    is_node_among (ns ++ n ∷ []) m ≡ (is_node_among ns m || nat_eq n.0 m)
among-more [] n m = or_false (nat_eq n.0 m)
  where
    or_false : (b : Bool) → (b || false) ≡ b
    or_false true = refl
    or_false false = refl
among-more (k ∷ ns) n m =
    ap (λ b. nat_eq k.0 m || b) (among-more ns n m) ∙ or_all (nat_eq k.0 m) (is_node_among ns m) (nat_eq n.0 m)
  where
    or_all : (a b c : Bool) → (a || (b || c)) ≡ ((a || b) || c)
    or_all true b c = refl
    or_all false b c = refl
