-- The calls of a node after legs and a call come, change or go.
use Rattle.std.proofs.{Common.{◌≡◌, ◌≤◌, ◌<◌, ℕ, Bool, true, false, cond, nat_eq, List, refl, sym, ap, subst, ◌∙◌, arith, inl, inr}, Math.Bool.or-true}
use Rattle.std.specs.Prelude.{◌⊎◌, ◌||◌, Option, Some, None, IsTrue, IfSome}
use Rattle.ason_base.specs.{declared.ids.CallNo.CallNo, declared.ids.NodeId.NodeId, declared.ids.Lsp.Lsp, declared.calls.Role.Role, declared.tables.CallRec.CallRec, declared.tables.Leg.Leg, Lsps.{is_lsp, same_lsp}}
use Rattle.mesh_rules.specs.{Legs.{find_leg, is_closing, leg_of}, Calls.{find_call, names, with_call}}
use Rattle.lsp_laws.specs.CallLaw.{FitsLegs, IsNamed}
use Rattle.lsp_laws.proofs.{nodes.Facts.HasCall, hops.NamedPhases.named_is}
use Rattle.mesh_nodes.specs.Order.{CallsRise}
use Rattle.mesh_nodes.proofs.{CallList.find-with_call, LegList.{same_lsp-refl, same_lsp-eq}}

pub record CallPart (n : ℕ) (next : ℕ) (legs : List Leg) (calls : List CallRec) : Type 0 where
  pub rise : CallsRise calls
  pub call : (k : CallNo) (c : CallRec) → find_call k calls ≡ Some c → FitsLegs n next legs c
  pub one_call : (l : Lsp) (k m : CallNo) (c d : CallRec) → find_call k calls ≡ Some c → find_call m calls ≡ Some d →
      IsTrue (names l c) → IsTrue (names l d) → k ≡ m
  pub has_call : (l : Lsp) (g : Leg) → find_leg l legs ≡ Some g → l.ingress.0 ≡ n → is_closing g.phase ≡ false →
      HasCall calls l

-- The LSPs that a call names

pub lsp-is : (o : Option Lsp) (l : Lsp) → is_lsp o l ≡ true → o ≡ Some l
lsp-is None l e = absurd (cc e)
lsp-is (Some k) l e = ap Some (same_lsp-eq k l e)

pub is-lsp : (o : Option Lsp) (l : Lsp) → o ≡ Some l → is_lsp o l ≡ true
is-lsp o l e = subst (λ x. is_lsp x l ≡ true) (sym e) (same_lsp-refl l)

pub names-work : (c : CallRec) (l : Lsp) → c.work ≡ Some l → names l c ≡ true
names-work c l e = rw (is-lsp c.work l e) refl

pub names-back : (c : CallRec) (l : Lsp) → c.back ≡ Some l → names l c ≡ true
names-back c l e = rw (is-lsp c.back l e) (or-true (is_lsp c.work l))

pub named-by : (c : CallRec) (l : Lsp) → names l c ≡ true → (c.work ≡ Some l) ⊎ (c.back ≡ Some l)
named-by c l e = go (is_lsp c.work l) refl e
  where
    go : (b : Bool) → is_lsp c.work l ≡ b → (b || is_lsp c.back l) ≡ true → (c.work ≡ Some l) ⊎ (c.back ≡ Some l)
    go true work e = inl (lsp-is c.work l work)
    go false work e = inr (lsp-is c.back l e)

-- A call whose legs stay

-- the legs of the LSPs that the call names are as before
abbrev pub Stay : CallRec → List Leg → List Leg → Type 0
Stay c legs legs' = (m : Lsp) → names m c ≡ true → find_leg m legs' ≡ find_leg m legs

pub leg_of-stays : (o : Option Lsp) (legs legs' : List Leg) →
    ((m : Lsp) → o ≡ Some m → find_leg m legs' ≡ find_leg m legs) →
    leg_of o legs' ≡ leg_of o legs
leg_of-stays None legs legs' stay = refl
leg_of-stays (Some l) legs legs' stay = stay l refl

pub named-stays : (n a b : ℕ) (r : Role) (e : NodeId) (o : Option Lsp) (legs legs' : List Leg) → a ≤ b →
    ((m : Lsp) → o ≡ Some m → find_leg m legs' ≡ find_leg m legs) → IfSome o (IsNamed n a legs r e) →
    IfSome o (IsNamed n b legs' r e)
named-stays n a b r e None legs legs' le stay named = tt
named-stays n a b r e (Some l) legs legs' le stay named = record {
  ingress = named.ingress;
  number = (let small : l.lsp < a = named.number in omega arith);
  leg = (named.leg.0, stay l refl ∙ named.leg.1, named.leg.2, named.leg.3);
}

pub call-stays : (n a b : ℕ) (legs legs' : List Leg) (c : CallRec) → a ≤ b → Stay c legs legs' → FitsLegs n a legs c →
    FitsLegs n b legs' c
call-stays n a b legs legs' c le stay facts = record {
  state = rw (leg_of-stays c.work legs legs' work, leg_of-stays c.back legs legs' back) facts.state;
  work = named-stays n a b _ c.egress c.work legs legs' le work facts.work;
  back = named-stays n a b _ c.egress c.back legs legs' le back facts.back;
  guards = λ w l g is_work is_back found. facts.guards w l g is_work is_back (sym (back l is_back) ∙ found);
  ways = λ w l g h is_work is_back at_w at_l.
      facts.ways w l g h is_work is_back (sym (work w is_work) ∙ at_w) (sym (back l is_back) ∙ at_l);
  reports = facts.reports;
}
  where
    work : (m : Lsp) → c.work ≡ Some m → find_leg m legs' ≡ find_leg m legs
    work m e = stay m (names-work c m e)

    back : (m : Lsp) → c.back ≡ Some m → find_leg m legs' ≡ find_leg m legs
    back m e = stay m (names-back c m e)

-- One leg changes

-- the leg of l becomes p, and all other legs stay
abbrev pub LegBecomes : Lsp → Option Leg → List Leg → List Leg → Type 0
LegBecomes l p legs legs' = (m : Lsp) → find_leg m legs' ≡ cond (same_lsp l m) p (find_leg m legs)

pub other-stays : (l m : Lsp) (p : Option Leg) (legs legs' : List Leg) → LegBecomes l p legs legs' →
    same_lsp l m ≡ false →
    find_leg m legs' ≡ find_leg m legs
other-stays l m p legs legs' becomes other = becomes m ∙ ap (λ b. cond b p (find_leg m legs)) other

-- a leg of l that is found afterwards is what l's became
pub itself-became : (l m : Lsp) (p : Option Leg) (g : Leg) (legs legs' : List Leg) → LegBecomes l p legs legs' →
    same_lsp l m ≡ true → find_leg m legs' ≡ Some g → p ≡ Some g
itself-became l m p g legs legs' becomes same found =
    sym (becomes m ∙ ap (λ b. cond b p (find_leg m legs)) same) ∙ found

-- No call changes

-- no call names this LSP
abbrev pub Unnamed : List CallRec → Lsp → Type 0
Unnamed calls l = (k : CallNo) (c : CallRec) → find_call k calls ≡ Some c → names l c ≡ true → ⊥

-- a leg that has no call: another node is its ingress, or it is torn
abbrev pub NeedsNoCall : ℕ → Lsp → Option Leg → Type 0
NeedsNoCall n l p = (g : Leg) → p ≡ Some g → l.ingress.0 ≡ n → is_closing g.phase ≡ false → ⊥

pub unnamed-part : (n next : ℕ) (l : Lsp) (p : Option Leg) (legs legs' : List Leg) (calls : List CallRec) →
    LegBecomes l p legs legs' → Unnamed calls l → NeedsNoCall n l p → CallPart n next legs calls →
    CallPart n next legs' calls
unnamed-part n next l p legs legs' calls becomes unnamed needs_none part = record {
  rise = part.rise;
  call = λ k c found. call-stays n next next legs legs' c (omega arith) (stays k c found) (part.call k c found);
  one_call = part.one_call;
  has_call = λ m g found here stands. each m g found here stands (same_lsp l m) refl;
}
  where
    stays : (k : CallNo) (c : CallRec) → find_call k calls ≡ Some c → Stay c legs legs'
    stays k c found m named = go (same_lsp l m) refl
      where
        go : (b : Bool) → same_lsp l m ≡ b → find_leg m legs' ≡ find_leg m legs
        go true same =
            let is = same_lsp-eq l m same in
            absurd (unnamed k c found (subst (λ x. names x c ≡ true) (sym is) named))
        go false other = other-stays l m p legs legs' becomes other

    each : (m : Lsp) (g : Leg) → find_leg m legs' ≡ Some g → m.ingress.0 ≡ n → is_closing g.phase ≡ false →
        (b : Bool) → same_lsp l m ≡ b → HasCall calls m
    each m g found here stands true same =
        let is = same_lsp-eq l m same in
        let became = itself-became l m p g legs legs' becomes same found in
        absurd (needs_none g became (subst (λ x. x.ingress.0 ≡ n) (sym is) here) stands)
    each m g found here stands false other =
        part.has_call m g (sym (other-stays l m p legs legs' becomes other) ∙ found) here stands

-- A call changes, with its legs

-- the call k becomes o, and all other calls stay
abbrev pub Replaced : CallNo → Option CallRec → List CallRec → List CallRec → Type 0
Replaced k o calls calls' = (m : CallNo) → find_call m calls' ≡ cond (nat_eq k.0 m.0) o (find_call m calls)

pub number-is : (k m : CallNo) → nat_eq k.0 m.0 ≡ true → k ≡ m
number-is k m e = let p : k.0 ≡ m.0 = grind arith in λ i. record { 0 = p i }

pub found-call : (P : Type 0) (k m : CallNo) (o : Option CallRec) (c : CallRec) (calls calls' : List CallRec) →
    Replaced k o calls calls' → find_call m calls' ≡ Some c → (k ≡ m → o ≡ Some c → P) →
    (nat_eq k.0 m.0 ≡ false → find_call m calls ≡ Some c → P) → P
found-call P k m o c calls calls' replaced found here there = go (nat_eq k.0 m.0) refl (sym (replaced m) ∙ found)
  where
    go : (b : Bool) → nat_eq k.0 m.0 ≡ b → cond b o (find_call m calls) ≡ Some c → P
    go true e f = here (number-is k m e) f
    go false e f = there e f

-- the call k, after the change, names this LSP
abbrev pub NamesNow : Option CallRec → Lsp → Type 0
NamesNow o l = (c : CallRec) × (o ≡ Some c) × (names l c ≡ true)

-- The legs of the touched LSPs alone change, and the call k becomes o. They are LSPs of no other call.
pub record Together (n next : ℕ) (touched : Lsp → Bool) (k : CallNo) (o : Option CallRec) (legs legs' : List Leg)
    (calls : List CallRec) : Type 0 where
  pub stay : (m : Lsp) → touched m ≡ false → find_leg m legs' ≡ find_leg m legs
  pub apart : (m : CallNo) (d : CallRec) (l : Lsp) → nat_eq k.0 m.0 ≡ false → find_call m calls ≡ Some d →
      names l d ≡ true → touched l ≡ false
  -- the call names touched LSPs, and of the others those that it named
  pub only : (c : CallRec) (l : Lsp) → o ≡ Some c → names l c ≡ true →
      (touched l ≡ true) ⊎ ((d : CallRec) × (find_call k calls ≡ Some d) × (names l d ≡ true))
  pub kept : (d : CallRec) (l : Lsp) → find_call k calls ≡ Some d → names l d ≡ true → touched l ≡ false → NamesNow o l
  pub facts : (c : CallRec) → o ≡ Some c → FitsLegs n next legs' c
  pub number : (c : CallRec) → o ≡ Some c → c.call ≡ k
  -- where a touched leg wants a call, it has this one
  pub wanted : (l : Lsp) (g : Leg) → touched l ≡ true → find_leg l legs' ≡ Some g → l.ingress.0 ≡ n →
      is_closing g.phase ≡ false → NamesNow o l

pub together-part : (n a b : ℕ) (touched : Lsp → Bool) (k : CallNo) (o : Option CallRec) (legs legs' : List Leg)
    (calls calls' : List CallRec) → a ≤ b → CallsRise calls' → Replaced k o calls calls' →
    Together n b touched k o legs legs' calls → CallPart n a legs calls → CallPart n b legs' calls'
together-part n a b touched k o legs legs' calls calls' le rise replaced both part = record {
  rise = rise;
  call = λ m c found. found-call (FitsLegs n b legs' c) k m o c calls calls' replaced found
      (λ e is. both.facts c is)
      (λ e there. call-stays n a b legs legs' c le
      (λ l named. both.stay l (both.apart m c l e there named)) (part.call m c there));
  one_call = λ l i j c d at_i at_j c_has d_has. found-call (i ≡ j) k i o c calls calls' replaced at_i
      (λ e is. found-call (i ≡ j) k j o d calls calls' replaced at_j
      (λ e' is'. sym e ∙ e') (λ e' there. absurd (clash l j c d e' is there c_has d_has)))
      (λ e there. found-call (i ≡ j) k j o d calls calls' replaced at_j
      (λ e' is'. absurd (clash l i d c e is' there d_has c_has))
      (λ e' there'. part.one_call l i j c d there there' c_has d_has));
  has_call = λ l g found here stands. each l g found here stands (touched l) refl;
}
  where
    clash : (l : Lsp) (j : CallNo) (c d : CallRec) → nat_eq k.0 j.0 ≡ false → o ≡ Some c → find_call j calls ≡ Some d →
        names l c ≡ true → names l d ≡ true → ⊥
    clash l j c d e is there c_has d_has = elim (both.only c l is c_has) [
      | inl t ↦ (let never = both.apart j d l e there d_has in cc (t, never))
      | inr was ↦
          (let one : k ≡ j = part.one_call l k j was.0 d was.1 there was.2 d_has in
          let test : nat_eq k.0 j.0 ≡ true = (let p : k.0 ≡ j.0 = ap (λ x. x.0) one in grind arith) in
          cc (test, e))
    ]

    now : (l : Lsp) → NamesNow o l → HasCall calls' l
    now l (c, is, named) =
        let itself : nat_eq k.0 k.0 ≡ true = grind arith in
        let found : find_call k calls' ≡ Some c = replaced k ∙ ap (λ b. cond b o (find_call k calls)) itself ∙ is in
        let found' = subst (λ x. find_call x calls' ≡ Some c) (sym (both.number c is)) found in
        record { call = c; found = found'; named = named }

    still : (l : Lsp) → touched l ≡ false → HasCall calls l → HasCall calls' l
    still l never has = go (nat_eq k.0 has.call.call.0) refl
      where
        go : (b : Bool) → nat_eq k.0 has.call.call.0 ≡ b → HasCall calls' l
        go true f =
            let number = number-is k has.call.call f in
            let found = subst (λ x. find_call x calls ≡ Some has.call) (sym number) has.found in
            now l (both.kept has.call l found has.named never)
        go false f = record {
          call = has.call;
          found = replaced has.call.call ∙ ap (λ b. cond b o (find_call has.call.call calls)) f ∙ has.found;
          named = has.named;
        }

    each : (l : Lsp) (g : Leg) → find_leg l legs' ≡ Some g → l.ingress.0 ≡ n → is_closing g.phase ≡ false →
        (t : Bool) → touched l ≡ t → HasCall calls' l
    each l g found here stands true t = now l (both.wanted l g t found here stands)
    each l g found here stands false t = still l t (part.has_call l g (sym (both.stay l t) ∙ found) here stands)

-- a call of this number is put in its place
pub put-once : (k : CallNo) (d : CallRec) (calls : List CallRec) → d.call ≡ k →
    Replaced k (Some d) calls (with_call d calls)
put-once k d calls number =
    subst (λ j. Replaced j (Some d) calls (with_call d calls)) number (find-with_call d calls)

-- of a call that is put in its place twice, the second one counts
pub put-twice : (c d : CallRec) (calls : List CallRec) → d.call ≡ c.call →
    Replaced c.call (Some d) (with_call c calls) (with_call d calls)
put-twice c d calls same m =
    let number : nat_eq d.call.0 m.0 ≡ nat_eq c.call.0 m.0 = ap (λ k. nat_eq k.0 m.0) same in
    let first = find-with_call c calls m in
    find-with_call d calls m ∙ rw (number, first) (counts (nat_eq c.call.0 m.0))
  where
    counts : (b : Bool) → cond b (Some d) (find_call m calls) ≡ cond b (Some d) (cond b (Some c) (find_call m calls))
    counts true = refl
    counts false = refl

-- a call comes that names no LSP
pub lone-part : (n next : ℕ) (c : CallRec) (legs : List Leg) (calls calls' : List CallRec) → CallsRise calls' →
    Replaced c.call (Some c) calls calls' → find_call c.call calls ≡ None → c.work ≡ None → c.back ≡ None →
    FitsLegs n next legs c → CallPart n next legs calls → CallPart n next legs calls'
lone-part n next c legs calls calls' rise replaced unknown work back facts part =
    together-part n next next (λ l. false) c.call (Some c) legs legs calls calls' (omega arith) rise replaced
    (record {
      stay = λ m never. refl;
      apart = λ m d l other there named. refl;
      only = λ d l is named. absurd (no_name l
          (let one : c ≡ d = cc is in subst (λ x. names l x ≡ true) (sym one) named));
      kept = λ d l there named never. absurd (cc (unknown, there));
      facts = λ d is. (let one : c ≡ d = cc is in subst (FitsLegs n next legs) one facts);
      number = λ d is. (let one : c ≡ d = cc is in ap (λ x. x.call) (sym one));
      wanted = λ l g t found here stands. absurd (cc t);
    }) part
  where
    no_name : (l : Lsp) → names l c ≡ true → ⊥
    no_name l named = elim (named-by c l named) [ inl some ↦ cc (work, some) | inr some ↦ cc (back, some) ]

-- A new LSP

-- no call names an LSP whose number wasn't given out
pub new-unnamed : (n next : ℕ) (legs : List Leg) (calls : List CallRec) (l : Lsp) → l.lsp ≡ next →
    CallPart n next legs calls → (m : CallNo) (d : CallRec) (x : Lsp) → find_call m calls ≡ Some d →
    names x d ≡ true → same_lsp l x ≡ false
new-unnamed n next legs calls l new part m d x there named = go (same_lsp l x) refl
  where
    small : x.lsp < next
    small = elim (named-by d x named) [
      | inl work ↦ (named_is n next legs _ d.egress d.work x (part.call m d there).work work).number
      | inr back ↦ (named_is n next legs _ d.egress d.back x (part.call m d there).back back).number
    ]

    go : (b : Bool) → same_lsp l x ≡ b → b ≡ false
    go false e = refl
    go true e =
        let number : l.lsp ≡ x.lsp = ap (λ y. y.lsp) (same_lsp-eq l x e) in let less = small in absurd (omega arith)
