-- The derived orders of rows, as tests: an LSP and a node, a call and its ingress.
use Rattle.std.proofs.Common.{◌≡◌, ℕ, ◌==◌, ◌&&◌, ◌||◌, nat_lt, nat_cmp, is_lt, Bool, true, false, Ordering, Less, Equal, Greater, refl, ap, sym, ◌∙◌, ◌+◌, List, slice_index_or}
use Rattle.std.specs.{List.Sorted.IsSortedBy, Ordering.ordering_then}
use Rattle.ason_base.specs.{declared.calls.CallRow.CallRow, declared.calls.LegRow.LegRow}
use Rattle.script_rules.specs.Tables.{call_before, leg_before}
use mathlib.Core.Bool.{cond}

is_lt-cond : (b e : Bool) → is_lt (cond b Less (cond e Equal Greater)) ≡ b
is_lt-cond true e = refl
is_lt-cond false true = refl
is_lt-cond false false = refl

is_lt-cond_then : (b e : Bool) (o : Ordering) → is_lt (ordering_then (cond b Less (cond e Equal Greater)) o) ≡ (b ||
    (e && is_lt o))
is_lt-cond_then true e o = refl
is_lt-cond_then false true o = refl
is_lt-cond_then false false o = refl

is_lt-then : (x y : ℕ) (o : Ordering) → is_lt (ordering_then (nat_cmp x y) o) ≡ (nat_lt x y || (x == y && is_lt o))
is_lt-then x y o = is_lt-cond_then (nat_lt x y) (x == y) o

then-assoc : (a b c : Ordering) → ordering_then (ordering_then a b) c ≡ ordering_then a (ordering_then b c)
then-assoc Less b c = refl
then-assoc Equal b c = refl
then-assoc Greater b c = refl

spread : (p q r s t u v : Bool) → (p || (q && (r || (s && (t || (u && v)))))) ≡ ((p || (q && (r || (s && t)))) ||
    ((q && (s && u)) && v))
spread true q r s t u v = refl
spread false false r s t u v = refl
spread false true true s t u v = refl
spread false true false false t u v = refl
spread false true false true true u v = refl
spread false true false true false u v = refl

four : (a1 a2 a3 a4 b1 b2 b3 b4 : ℕ) →
    is_lt (ordering_then (nat_cmp a1 b1) (ordering_then (nat_cmp a2 b2) (ordering_then (nat_cmp a3 b3)
    (nat_cmp a4 b4))))
    ≡ (nat_lt a1 b1 || (a1 == b1 && (nat_lt a2 b2 || (a2 == b2 && (nat_lt a3 b3 || (a3 == b3 && nat_lt a4 b4))))))
four a1 a2 a3 a4 b1 b2 b3 b4 =
    rw (is_lt-then a1 b1 _, is_lt-then a2 b2 _, is_lt-then a3 b3 _, is_lt-cond (nat_lt a4 b4) (a4 == b4)) refl

abbrev pub derived_order : LegRow → LegRow → Bool
derived_order a b = is_lt (ordering_then (ordering_then (nat_cmp a.lsp.ingress.0 b.lsp.ingress.0) (ordering_then
    (nat_cmp a.lsp.tunnel b.lsp.tunnel) (nat_cmp a.lsp.lsp b.lsp.lsp))) (nat_cmp a.node.0 b.node.0))

-- a test for each part of the order
abbrev pub number_before : LegRow → LegRow → Bool
number_before a b = nat_lt a.lsp.lsp b.lsp.lsp || (a.lsp.lsp == b.lsp.lsp && nat_lt a.node.0 b.node.0)

abbrev pub tunnel_before : LegRow → LegRow → Bool
tunnel_before a b = nat_lt a.lsp.tunnel b.lsp.tunnel || (a.lsp.tunnel == b.lsp.tunnel && number_before a b)

pub leg_levels : (a b : LegRow) → derived_order a b ≡ (nat_lt a.lsp.ingress.0 b.lsp.ingress.0 ||
    (a.lsp.ingress.0 == b.lsp.ingress.0 && tunnel_before a b))
leg_levels a b =
    let first = nat_cmp a.lsp.ingress.0 b.lsp.ingress.0 in
    let second = nat_cmp a.lsp.tunnel b.lsp.tunnel in
    let third = nat_cmp a.lsp.lsp b.lsp.lsp in
    let last = nat_cmp a.node.0 b.node.0 in
    ap is_lt (then-assoc first (ordering_then second third) last ∙ ap (ordering_then first)
    (then-assoc second third last))
    ∙ four a.lsp.ingress.0 a.lsp.tunnel a.lsp.lsp a.node.0 b.lsp.ingress.0 b.lsp.tunnel b.lsp.lsp b.node.0

pub leg_order : (a b : LegRow) → derived_order a b ≡ leg_before a b
leg_order a b =
    leg_levels a b
    ∙ spread (nat_lt a.lsp.ingress.0 b.lsp.ingress.0) (a.lsp.ingress.0 == b.lsp.ingress.0)
    (nat_lt a.lsp.tunnel b.lsp.tunnel) (a.lsp.tunnel == b.lsp.tunnel)
    (nat_lt a.lsp.lsp b.lsp.lsp) (a.lsp.lsp == b.lsp.lsp) (nat_lt a.node.0 b.node.0)

pub legs_in_order : (xs : List LegRow) → IsSortedBy derived_order xs → IsSortedBy leg_before xs
legs_in_order xs sorted k d low high = sym (leg_order (slice_index_or xs (k + 1) d) (slice_index_or xs k d)) ∙
    sorted k d low high

-- Calls

abbrev pub derived_call_order : CallRow → CallRow → Bool
derived_call_order a b = is_lt (ordering_then (nat_cmp a.call.0 b.call.0) (nat_cmp a.ingress.0 b.ingress.0))

pub call_order : (a b : CallRow) → derived_call_order a b ≡ call_before a b
call_order a b =
    is_lt-then a.call.0 b.call.0 (nat_cmp a.ingress.0 b.ingress.0)
    ∙ ap (λ c. nat_lt a.call.0 b.call.0 || (a.call.0 == b.call.0 && c)) (is_lt-cond (nat_lt a.ingress.0 b.ingress.0)
    (a.ingress.0 == b.ingress.0))

pub calls_in_order : (xs : List CallRow) → IsSortedBy derived_call_order xs → IsSortedBy call_before xs
calls_in_order xs sorted k d low high = sym (call_order (slice_index_or xs (k + 1) d) (slice_index_or xs k d)) ∙
    sorted k d low high
