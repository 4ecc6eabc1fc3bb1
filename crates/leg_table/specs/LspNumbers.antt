-- LSPs as numbers.
use Rattle.std.specs.Prelude.{ℕ, ◌+◌, ◌*◌, ◌/◌, ◌%◌, ◌^◌}
use Rattle.ason_base.specs.declared.ids.Lsp.{Lsp}

-- the LSP whose ingress, tunnel and number are these bits, from the highest on
abbrev pub lsp_of_number : ℕ → Lsp
lsp_of_number k = record {
  ingress = record { 0 = k / 2 ^ 32 };
  tunnel = k / 2 ^ 16 % 2 ^ 16;
  lsp = k % 2 ^ 16;
}

-- all of them as one number
abbrev pub number_of_lsp : Lsp → ℕ
number_of_lsp l = l.ingress.0 * 2 ^ 32 + l.tunnel * 2 ^ 16 + l.lsp
