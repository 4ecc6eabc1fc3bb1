-- Legs and calls that fit: after one of them comes, changes or goes.
use Rattle.std.proofs.Common.{◌≡◌, ◌≤◌, ◌<◌, ◌+◌, ℕ, suc, Bool, true, false, cond, not, nat_eq, List, [], ◌∷◌, length, refl, sym, ap, subst, arith}
use Rattle.std.specs.Prelude.{Option, Some, None, IsTrue, is_some}
use Rattle.ason_base.specs.{declared.calls.Phase.Phase, declared.calls.Phase.TheVariants.{Armed, Live}, declared.calls.Role.Role, declared.calls.Role.TheVariants.{Work, Back}, declared.ids.CallNo.CallNo, declared.ids.Fibre.Fibre, declared.ids.LinkId.LinkId, declared.ids.Lsp.Lsp, declared.ids.NodeId.NodeId, declared.tables.CallRec.CallRec, declared.tables.Leg.Leg, Lsps.{lsp_before, same_lsp}}
use Rattle.ason_base.proofs.Members.{filter-shorter, all-filter, all-then}
use Rattle.mesh_rules.specs.{declared.limits.TheConstants.MOST_LEGS, declared.neighbours.Neighbour.Neighbour, Calls.{with_call, without_call}, Legs.{closed, closing_phase, connected, find_leg, is_armed, is_beyond_asked, is_held, is_in_use, is_over, neighbour_over, reserved, with_leg, with_phase, without_leg}, LocalNodes.LocalNode}
use Rattle.mesh_nodes.specs.{FitNodes.{CallFits, CallsFitNode, LegFits, LegsFit}, Order.LegsRise}
use Rattle.mesh_nodes.proofs.{CallList.{all-with_call, rise-with_call, rise-without_call}, LegList.{all-with_leg, before-apart, before-before, found-all, found-lsp, rise-with_leg, rise-without_leg, same_lsp-refl}, Phases.{armed-is, held-is, of-closing}}

-- How many legs there are

length-with_leg : (g : Leg) (legs : List Leg) → length (with_leg g legs) ≤ length legs + 1
length-with_leg g [] = omega arith
length-with_leg g (h ∷ legs) = go (same_lsp h.lsp g.lsp) (lsp_before g.lsp h.lsp) (length-with_leg g legs)
  where
    go : (a b : Bool) → length (with_leg g legs) ≤ length legs + 1 →
        length (cond a (g ∷ legs) (cond b (g ∷ h ∷ legs) (h ∷ with_leg g legs))) ≤ length (h ∷ legs) + 1
    go true b below = omega arith
    go false true below = omega arith
    go false false below = omega arith

-- a leg in the place of one that stands
pub length-replaced : (g k : Leg) (legs : List Leg) → LegsRise legs → find_leg g.lsp legs ≡ Some k →
    length (with_leg g legs) ≡ length legs
length-replaced g k [] rise found = absurd (cc found)
length-replaced g k (h ∷ legs) rise found =
    go (same_lsp h.lsp g.lsp) (lsp_before g.lsp h.lsp) refl found (length-replaced g k legs rise.1)
  where
    go : (a b : Bool) → lsp_before g.lsp h.lsp ≡ b → cond a (Some h) (find_leg g.lsp legs) ≡ Some k →
        (find_leg g.lsp legs ≡ Some k → length (with_leg g legs) ≡ length legs) →
        length (cond a (g ∷ legs) (cond b (g ∷ h ∷ legs) (h ∷ with_leg g legs))) ≡ length (h ∷ legs)
    go true b e f later = refl
    go false true e f later =
        let above : lsp_before h.lsp k.lsp ≡ true = found-all
        (λ x. IsTrue (lsp_before h.lsp x.lsp)) g.lsp legs k f rise.0 in
        let above' : lsp_before h.lsp g.lsp ≡ true =
        subst (λ x. lsp_before h.lsp x ≡ true) (found-lsp g.lsp legs k f) above in
        let apart = before-apart h.lsp h.lsp (before-before h.lsp g.lsp h.lsp above' e) in
        absurd (cc (apart, same_lsp-refl h.lsp))
    go false false e f later = ap suc (later f)

-- Legs

-- a leg whose phase and labels alone are others fits where these do, also once more numbers are given out
altered-fits : (p : LocalNode) (a b : ℕ) (g : Leg) (f : Phase) (i o back : Option ℕ) → a ≤ b → LegFits p a g →
    (IsTrue (is_beyond_asked f) → is_some i ≡ is_some g.in_fibre) →
    (IsTrue (is_beyond_asked f) → is_some o ≡ is_some g.out_fibre) → (is_beyond_asked f ≡ false → i ≡ None) →
    LegFits p b (record g { phase = f; in_label = i; out_label = o; back_out = back })
altered-fits p a b g f i o back le fits labelled out bare = record {
  prev = fits.prev;
  in_fibre = fits.in_fibre;
  next_node = fits.next_node;
  out_fibre = fits.out_fibre;
  upstream = fits.upstream;
  downstream = fits.downstream;
  role = fits.role;
  in_label = labelled;
  out_label = out;
  bare = bare;
  number = λ e. let small : g.lsp.lsp < a = fits.number e in omega arith;
  leaves = fits.leaves;
  short = fits.short;
  says = fits.says;
  set = fits.set;
}

-- a number more may be given out
later-fits : (p : LocalNode) (a b : ℕ) (g : Leg) → a ≤ b → LegFits p a g → LegFits p b g
later-fits p a b g le fits =
    altered-fits p a b g g.phase g.in_label g.out_label g.back_out le fits fits.in_label fits.out_label fits.bare

-- a leg more, where there is room
pub legs-more : (p : LocalNode) (a b : ℕ) (g : Leg) (legs : List Leg) → a ≤ b → LegsFit p a legs →
    length legs < MOST_LEGS →
    LegFits p b g → LegsFit p b (with_leg g legs)
legs-more p a b g legs le fits room here = record {
  rise = rise-with_leg g legs fits.rise;
  each =
      all-with_leg (LegFits p b) g legs here (all-then (LegFits p a) (LegFits p b) legs
      (λ h f. later-fits p a b h le f) fits.each);
  few = (let less = length-with_leg g legs in omega arith);
}

-- a leg in the place of one that stands
pub legs-changed : (p : LocalNode) (next : ℕ) (g k : Leg) (legs : List Leg) → LegsFit p next legs →
    find_leg g.lsp legs ≡ Some k →
    LegFits p next g → LegsFit p next (with_leg g legs)
legs-changed p next g k legs fits found here = record {
  rise = rise-with_leg g legs fits.rise;
  each = all-with_leg (LegFits p next) g legs here fits.each;
  few = (let few = fits.few in subst (λ n. n ≤ MOST_LEGS) (sym (length-replaced g k legs fits.rise found)) few);
}

pub legs-less : (p : LocalNode) (next : ℕ) (l : Lsp) (legs : List Leg) → LegsFit p next legs →
    LegsFit p next (without_leg l legs)
legs-less p next l legs fits = record {
  rise = rise-without_leg l legs fits.rise;
  each = all-filter (LegFits p next) (λ g. not (same_lsp g.lsp l)) legs fits.each;
  few = (let few = fits.few in let less = filter-shorter (λ g. not (same_lsp g.lsp l)) legs in omega arith);
}

-- One leg

closed-phase : (f : Phase) (r : Role) → is_beyond_asked (closing_phase f r) ≡ false
closed-phase f r = of-closing (λ q. is_beyond_asked q ≡ false) refl refl f r

pub closed-fits : (p : LocalNode) (next : ℕ) (g : Leg) → LegFits p next g → LegFits p next (closed g)
closed-fits p next g fits =
    altered-fits p next next g (closing_phase g.phase g.role) None g.out_label None (omega arith) fits
    (λ beyond. let torn = closed-phase g.phase g.role in absurd (cc (beyond, torn)))
    (λ beyond. let torn = closed-phase g.phase g.role in absurd (cc (beyond, torn)))
    (λ e. refl)

-- a leg that gets its label is beyond Asked
pub reserved-beyond : (r : Role) → is_beyond_asked (reserved r) ≡ true
reserved-beyond Work = refl
reserved-beyond Back = refl

-- the label in as it should be, and a fibre out
pub connected-fits : (p : LocalNode) (next : ℕ) (g : Leg) (label : Option ℕ) (x : ℕ) → LegFits p next g →
    is_some label ≡ is_some g.in_fibre → is_some g.out_fibre ≡ true → LegFits p next (connected g label x)
connected-fits p next g label x fits labelled out =
    altered-fits p next next g (reserved g.role) label (Some x) g.back_out (omega arith) fits (λ beyond. labelled)
    (λ beyond. sym out) (λ e. absurd (let beyond = reserved-beyond g.role in cc (beyond, e)))

-- another phase, where the leg has its labels
pub phase-fits : (p : LocalNode) (next : ℕ) (f : Phase) (g : Leg) → LegFits p next g →
    is_beyond_asked g.phase ≡ true → is_beyond_asked f ≡ true → LegFits p next (with_phase f g)
phase-fits p next f g fits beyond later =
    altered-fits p next next g f g.in_label g.out_label g.back_out (omega arith) fits (λ e. fits.in_label beyond)
    (λ e. fits.out_label beyond) (λ e. absurd (cc (later, e)))

pub held-beyond : (f : Phase) → is_held f ≡ true → is_beyond_asked f ≡ true
held-beyond f e = ap is_beyond_asked (held-is f e)

pub armed-beyond : (f : Phase) → is_armed f ≡ true → is_beyond_asked f ≡ true
armed-beyond f e = ap is_beyond_asked (armed-is f e)

pub in_use-beyond : (f : Phase) → is_in_use f ≡ true → is_beyond_asked f ≡ true
in_use-beyond Armed e = refl
in_use-beyond Live e = refl
in_use-beyond _ e = absurd (cc e)

-- Fibres of a leg

pub over-fibre : (o : Option NodeId) (f : Option Fibre) (n : NodeId) (k : LinkId) →
    is_over (neighbour_over o f) n k ≡ true →
    is_some f ≡ true
over-fibre None f n k e = absurd (cc e)
over-fibre (Some m) None n k e = absurd (cc e)
over-fibre (Some m) (Some f) n k e = refl

pub beside-fibre : (o : Option NodeId) (f : Option Fibre) (h : Neighbour) → neighbour_over o f ≡ Some h →
    is_some f ≡ true
beside-fibre None f h e = absurd (cc e)
beside-fibre (Some m) None h e = absurd (cc e)
beside-fibre (Some m) (Some f) h e = refl

pub beside-node : (o : Option NodeId) (f : Option Fibre) (h : Neighbour) → neighbour_over o f ≡ Some h →
    is_some o ≡ true
beside-node None f h e = absurd (cc e)
beside-node (Some m) None h e = absurd (cc e)
beside-node (Some m) (Some f) h e = refl

pub alone-fibre : (o : Option NodeId) (f : Option Fibre) → is_some f ≡ is_some o → neighbour_over o f ≡ None →
    is_some f ≡ false
alone-fibre None f both e = both
alone-fibre (Some n) None both e = refl
alone-fibre (Some n) (Some f) both e = absurd (cc e)

-- Calls

pub calls-put : (p : LocalNode) (c : CallRec) (calls : List CallRec) → CallsFitNode p calls → CallFits p c →
    CallsFitNode p (with_call c calls)
calls-put p c calls fits here = record {
  rise =
      rise-with_call c calls fits.rise;
  each = all-with_call (CallFits p) c calls here fits.each;
}

pub calls-less : (p : LocalNode) (n : CallNo) (calls : List CallRec) → CallsFitNode p calls →
    CallsFitNode p (without_call n calls)
calls-less p n calls fits = record {
  rise = rise-without_call n calls fits.rise;
  each = all-filter (CallFits p) (λ c. not (nat_eq c.call.0 n.0)) calls fits.each;
}
