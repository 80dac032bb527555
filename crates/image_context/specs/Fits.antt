-- What a context is that comes back from its bytes as it was: every number fits its field, and every list has its length. Code owns no other.
-- Assumes nothing: these are definitions.
use Rattle.std.specs.Prelude.{◌≡◌, List, ℕ, ◌^◌, ◌<◌, length}
use Rattle.wire.specs.Le.{Bytes}
use Rattle.handle.specs.Handle.{handle_size}
use Rattle.context.specs.Bytes.{tci_size}
use Rattle.context.specs.declared.tci.TciNodeData.{TciNodeData}
use Rattle.context.specs.declared.Context.{Context}

-- a run of n bytes
pub record Run (n : ℕ) (l : List ℕ) : Type 0 where
  pub size : length l ≡ n
  pub bytes : Bytes l

-- measurements that fit
pub record FitsTci (t : TciNodeData) : Type 0 where
  pub kind : t.tci_type < 2 ^ 32
  pub cumulative : Run tci_size t.tci_cumulative
  pub current : Run tci_size t.tci_current
  pub locality : t.locality < 2 ^ 32
  pub svn : t.svn < 2 ^ 32

-- a context that fits
pub record FitsContext (c : Context) : Type 0 where
  pub handle : Run handle_size c.handle
  pub tci : FitsTci c.tci
  pub children : c.children < 2 ^ 64
  pub locality : c.locality < 2 ^ 32
  pub parent : c.parent_idx < 2 ^ 8
  pub info : c.uses_internal_input_info < 2 ^ 8
  pub dice : c.uses_internal_input_dice < 2 ^ 8
  pub x509 : c.allow_x509 < 2 ^ 8
  pub export : c.allow_export_cdi < 2 ^ 8
  pub recursive : c.allow_recursive < 2 ^ 8
