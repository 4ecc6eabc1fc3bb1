-- The legs of a node: which leg is found, and their order, after a leg comes, changes or goes.
use Rattle.std.proofs.Common.{◌≡◌, cond, not, List}
use Rattle.std.specs.{Prelude.{Some, None, IsTrue}, List.AllByRecursion}
use Rattle.ason_base.specs.{declared.ids.Lsp.Lsp, declared.tables.Leg.Leg, Lsps.{same_lsp, lsp_before}}
use Rattle.ason_base.proofs.KeyedLists as keyed
use Rattle.ason_base.proofs.{LspOrder.lsp_order, Finding.found-of_all}
pub use Rattle.ason_base.proofs.LspOrder.{before-apart, before-before, same_lsp-by, same_lsp-eq, same_lsp-refl}
use Rattle.mesh_rules.specs.Legs.{find_leg, with_leg, without_leg}
use Rattle.mesh_nodes.specs.Order.{LegsRise}

-- Finding

pub found-lsp : (l : Lsp) (legs : List Leg) (g : Leg) → find_leg l legs ≡ Some g → g.lsp ≡ l
found-lsp l legs g found = keyed.found-key lsp_order (λ (h : Leg). h.lsp) l legs g found

pub found-all : (P : Leg → Type 0) (l : Lsp) (legs : List Leg) (g : Leg) → find_leg l legs ≡ Some g →
    AllByRecursion P legs → P g
found-all P l legs g found all = found-of_all P (λ h. same_lsp h.lsp l) legs g found all

pub find-with_leg : (g : Leg) (legs : List Leg) (m : Lsp) →
    find_leg m (with_leg g legs) ≡ cond (same_lsp g.lsp m) (Some g) (find_leg m legs)
find-with_leg g legs m = keyed.find-put lsp_order (λ (h : Leg). h.lsp) g legs m

pub find-without_leg : (l : Lsp) (legs : List Leg) (m : Lsp) →
    find_leg m (without_leg l legs) ≡ cond (same_lsp l m) None (find_leg m legs)
find-without_leg l legs m = keyed.find-without lsp_order (λ (h : Leg). h.lsp) l legs m

-- Order

pub all-with_leg : (P : Leg → Type 0) (g : Leg) (legs : List Leg) → P g → AllByRecursion P legs →
    AllByRecursion P (with_leg g legs)
all-with_leg P g legs here all = keyed.all-put lsp_order (λ (h : Leg). h.lsp) P g legs here all

pub rise-with_leg : (g : Leg) (legs : List Leg) → LegsRise legs → LegsRise (with_leg g legs)
rise-with_leg g legs rise =
    keyed.rise-put lsp_order (λ (h : Leg). h.lsp) (λ h k. IsTrue (lsp_before h.lsp k.lsp)) (λ h k e. e) (λ h k e. e) g
    legs rise

pub rise-without_leg : (l : Lsp) (legs : List Leg) → LegsRise legs → LegsRise (without_leg l legs)
rise-without_leg l legs rise =
    keyed.rise-filter (λ h k. IsTrue (lsp_before h.lsp k.lsp)) (λ h. not (same_lsp h.lsp l)) legs rise

-- what holds of each leg that is found holds of all
pub all-found : (P : Leg → Type 0) (legs : List Leg) → LegsRise legs →
    ((l : Lsp) (g : Leg) → find_leg l legs ≡ Some g → P g) → AllByRecursion P legs
all-found P legs rise each =
    keyed.all-found lsp_order (λ (h : Leg). h.lsp) (λ h k. IsTrue (lsp_before h.lsp k.lsp)) (λ h k e. e) (λ h k e. e) P
    legs rise each
