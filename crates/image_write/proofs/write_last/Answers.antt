-- `image_write::write_last` meets its contract. Assumes nothing.
use Rattle.image_context.specs.Context.{encode_last}
use native.Mathlib.Omega.{arith}
use Prim.Native.Nat.{ℕ}
use mathlib.Core.Path.{◌∙◌, ap}
use mathlib.Core.List.{List, [], ◌∷◌}
use Rattle.wire.specs.Le.{put}
use Rattle.wire.proofs.Put.{put_sets}
use Rattle.image_write.proofs.write_last.Goals as goal

pub returns : goal.returns
unfolding encode_last
returns c =
    let a = c.args in
    let x = a.c in
    put_sets 136
    (x.parent_idx ∷ c.type_byte-t.result ∷ c.state_byte-s.result ∷ x.uses_internal_input_info ∷ x.uses_internal_input_dice ∷ x.allow_x509 ∷ x.allow_export_cdi ∷ x.allow_recursive ∷ [])
    a.out.now (omega arith)
    ∙ ap (λ (v : List ℕ). put 136 v a.out.now) (cc)
