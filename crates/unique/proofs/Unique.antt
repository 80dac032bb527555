-- For every public function: no second result fits its contract, and no second content of a lent place. Proved once in general, and applied to each
-- contract as the checker reads it. docs/THEOREMS.md lists the functions that are not among them. Assumes nothing.
use mathlib.Core.Path.{◌≡◌, sym, ◌∙◌}
use Prim.Native.Nat.{ℕ}
use mir.Syntax.{w64}
use mir.Val.{Fits}
use Rattle.error.proofs.internal.Reads as error-internal-reads
use Rattle.error.proofs.validation.Reads as error-validation-reads
use Rattle.error.proofs.added.Reads as error-added-reads
use Rattle.error.proofs.outer.Reads as error-outer-reads
use Rattle.error.proofs.inner.Reads as error-inner-reads
use Rattle.error.proofs.word.Reads as error-word-reads
use Rattle.children.proofs.empty.Reads as children-empty-reads
use Rattle.children.proofs.with.Reads as children-with-reads
use Rattle.children.proofs.with_if.Reads as children-with-if-reads
use Rattle.children.proofs.add_child.Reads as children-add-child-reads
use Rattle.children.proofs.is_empty.Reads as children-is-empty-reads
use Rattle.children.proofs.has_children.Reads as children-has-children-reads
use Rattle.children.proofs.has_child.Reads as children-has-child-reads
use Rattle.children.proofs.add_children.Reads as children-add-children-reads
use Rattle.children.proofs.remove_children.Reads as children-remove-children-reads
use Rattle.children.proofs.count.Reads as children-count-reads
use Rattle.children.proofs.next.Reads as children-next-reads
use Rattle.context.proofs.Context.new.Reads as context-context-new-reads
use Rattle.context.proofs.Context.activate.Reads as context-context-activate-reads
use Rattle.context.proofs.Context.destroy.Reads as context-context-destroy-reads
use Rattle.context.proofs.Context.add_child.Reads as context-context-add-child-reads
use Rattle.context.proofs.is_inactive.Reads as context-is-inactive-reads
use Rattle.context.proofs.is_active.Reads as context-is-active-reads
use Rattle.context.proofs.is_retired.Reads as context-is-retired-reads
use Rattle.context.proofs.same_state.Reads as context-same-state-reads
use Rattle.context.proofs.is_normal.Reads as context-is-normal-reads
use Rattle.handle.proofs.default.Reads as handle-default-reads
use Rattle.handle.proofs.new_invalid.Reads as handle-new-invalid-reads
use Rattle.handle.proofs.equals.Reads as handle-equals-reads
use Rattle.handle.proofs.is_default.Reads as handle-is-default-reads
use Rattle.table.proofs.state.State.new.Reads as table-state-state-new-reads
use Rattle.table.proofs.state.with_context.Reads as table-state-with-context-reads
use Rattle.table.proofs.state.with_initialized.Reads as table-state-with-initialized-reads
use Rattle.context.proofs.tci.TciNodeData.new.Reads as context-tci-tcinodedata-new-reads
use Rattle.context.proofs.u8bool.get.Reads as context-u8bool-get-reads
use Rattle.context.proofs.u8bool.new.Reads as context-u8bool-new-reads
use Rattle.links.proofs.links_of.Reads as links-links-of-reads
use Rattle.walks.proofs.descendants.descend.Reads as walks-descendants-descend-reads
use Rattle.walks.proofs.descendants.get_descendants.Reads as walks-descendants-get-descendants-reads
use Rattle.walks_path.proofs.root_to_leaf.Reads as walks-path-root-to-leaf-reads
use Rattle.walks_run.proofs.run_above.Reads as walks-run-run-above-reads
use Rattle.wire.proofs.read_u16.Reads as wire-read-u16-reads
use Rattle.wire.proofs.read_u32.Reads as wire-read-u32-reads
use Rattle.wire.proofs.read_u64.Reads as wire-read-u64-reads
use Rattle.wire.proofs.write_u16.Reads as wire-write-u16-reads
use Rattle.wire.proofs.write_u32.Reads as wire-write-u32-reads
use Rattle.wire.proofs.write_u64.Reads as wire-write-u64-reads
use Rattle.wire.proofs.write_run.Reads as wire-write-run-reads
use Rattle.lookup.proofs.active_in.Reads as lookup-active-in-reads
use Rattle.lookup.proofs.active_at.Reads as lookup-active-at-reads
use Rattle.lookup.proofs.get_active_context_pos.Reads as lookup-get-active-context-pos-reads
use Rattle.candidates.proofs.candidate_at.Reads as candidates-candidate-at-reads
use Rattle.candidates.proofs.generate_new_handle.Reads as candidates-generate-new-handle-reads
use Rattle.initialize_context.proofs.not_supported.Reads as initialize-context-not-supported-reads
use Rattle.initialize_context.proofs.both_or_neither.Reads as initialize-context-both-or-neither-reads
use Rattle.initialize_context.proofs.root.Reads as initialize-context-root-reads
use Rattle.initialize_context.proofs.initialize_context.Reads as initialize-context-initialize-context-reads
use Rattle.rotate_context.proofs.rotate_context.Reads as rotate-context-rotate-context-reads
use Rattle.image_context.proofs.state_of.Reads as image-context-state-of-reads
use Rattle.image_context.proofs.type_of.Reads as image-context-type-of-reads
use Rattle.image_context.proofs.read_context.Reads as image-context-read-context-reads
use Rattle.image_kinds.proofs.answer_at.Reads as image-kinds-answer-at-reads
use Rattle.image_kinds.proofs.kind_at.Reads as image-kinds-kind-at-reads
use Rattle.image_kinds.proofs.are_good_kinds.Reads as image-kinds-are-good-kinds-reads
use Rattle.image_write.proofs.write_context.Reads as image-write-write-context-reads
use Rattle.image.proofs.state.readable.Reads as image-state-readable-reads
use Rattle.image.proofs.state.is_readable.Reads as image-state-is-readable-reads
use Rattle.image_table.proofs.read_state.Reads as image-table-read-state-reads
use Rattle.image_table.proofs.write_state.Reads as image-table-write-state-reads
use Rattle.validation.proofs.validate_dpe.Reads as validation-validate-dpe-reads
use Rattle.verdict.proofs.outcome.Reads as verdict-outcome-reads
use Rattle.validation_fields.proofs.support_test.Reads as validation-fields-support-test-reads
use Rattle.validation_fields.proofs.inactive_test.Reads as validation-fields-inactive-test-reads
use Rattle.validation_localities.proofs.places_of.Reads as validation-localities-places-of-reads
use Rattle.validation_localities.proofs.localities_test.Reads as validation-localities-localities-test-reads
use Rattle.validation_slots.proofs.context_test.Reads as validation-slots-context-test-reads
use Rattle.validation_slots.proofs.slots_test.Reads as validation-slots-slots-test-reads
use Rattle.validation_trees.proofs.trees_test.Reads as validation-trees-trees-test-reads
use Rattle.destroy_context.proofs.destroy_slot.Reads as destroy-context-destroy-slot-reads
use Rattle.destroy_context.proofs.destroy_context.Reads as destroy-context-destroy-context-reads
use Rattle.view.proofs.fields_at.Reads as view-fields-at-reads
use Rattle.tell.proofs.refused.Reads as tell-refused-reads
use Rattle.tell.proofs.number.Reads as tell-number-reads
use Rattle.duottarok.proofs.dpe_validate.Reads as dpe-validate-reads
use Rattle.duottarok.proofs.dpe_lookup.Reads as dpe-lookup-reads
use Rattle.duottarok.proofs.dpe_initialize_context.Reads as dpe-initialize-context-reads
use Rattle.duottarok.proofs.dpe_rotate_context.Reads as dpe-rotate-context-reads
use Rattle.duottarok.proofs.dpe_destroy_context.Reads as dpe-destroy-context-reads
use Rattle.duottarok.proofs.dpe_descendants.Reads as dpe-descendants-reads
use Rattle.duottarok.proofs.dpe_path.Reads as dpe-path-reads
use Rattle.duottarok.proofs.dpe_count.Reads as dpe-count-reads
use Rattle.image_write.proofs.state_byte.Reads as image-write-state-byte-reads
use Rattle.image_write.proofs.type_byte.Reads as image-write-type-byte-reads
use Rattle.text_row.proofs.put_number.Reads as text-row-put-number-reads
use Rattle.text_row.proofs.put_verdict.Reads as text-row-put-verdict-reads
use Rattle.text_row.proofs.put_row.Reads as text-row-put-row-reads
use Rattle.text.proofs.list.Reads as text-list-reads
use Rattle.wire.proofs.read_array.Reads as wire-read-array-reads
use Rattle.table.proofs.flags.has_bit.Reads as table-flags-has-bit-reads
use Rattle.lookup.proofs.find.count_contexts.Reads as lookup-find-count-contexts-reads
use Rattle.lookup.proofs.find.get_next_inactive_context_pos.Reads as lookup-find-get-next-inactive-context-pos-reads
use Rattle.initialize_context.proofs.initialize_on.Reads as initialize-context-initialize-on-reads
use Rattle.rotate_context.proofs.rotate_on.Reads as rotate-context-rotate-on-reads
use Rattle.destroy_context.proofs.destroy_slot_on.Reads as destroy-context-destroy-slot-on-reads
use Rattle.destroy_context.proofs.destroy_on.Reads as destroy-context-destroy-on-reads
use Rattle.slots.proofs.Slots.marker.Reads as slots-marker-reads
use Rattle.slots.proofs.Slots.version.Reads as slots-version-reads
use Rattle.slots.proofs.Slots.support.Reads as slots-support-reads
use Rattle.slots.proofs.Slots.has_initialized.Reads as slots-has-initialized-reads
use Rattle.slots.proofs.Slots.state_at.Reads as slots-state-at-reads
use Rattle.slots.proofs.Slots.context_type_at.Reads as slots-context-type-at-reads
use Rattle.slots.proofs.Slots.locality_at.Reads as slots-locality-at-reads
use Rattle.slots.proofs.Slots.parent_at.Reads as slots-parent-at-reads
use Rattle.slots.proofs.Slots.children_at.Reads as slots-children-at-reads
use Rattle.slots.proofs.Slots.handle_at.Reads as slots-handle-at-reads
use Rattle.slots.proofs.Slots.context_at.Reads as slots-context-at-reads
use Rattle.clearing.proofs.clear.Reads as clearing-clear-reads
use Rattle.clearing.proofs.cleared.Reads as clearing-cleared-reads
use Rattle.tell.proofs.found.Reads as tell-found-reads
use Rattle.validation.proofs.validate_image.Reads as validation-validate-image-reads

-- two results that are both what a definition says are one
one : {A : Type 0} {d r r' : A} → r ≡ d → r' ≡ d → r ≡ r'
one p q = p ∙ sym q

-- the contract P fits one result at most; κ, a and s are the lifetimes, the arguments and the lent places
abbrev pub OneResult : {L : Type 0} {A R S : L → Type 0} → ((κ : L) → A κ → R κ → S κ → Type 0) → Type 0
OneResult {L} {A} {R} {S} P = (κ : L) (a : A κ) (r r' : R κ) (s s' : S κ) → P κ a r s → P κ a r' s' → r ≡ r'

pub error-internal : OneResult error-internal-reads.Post
error-internal κ a r r' s s' = one

pub error-validation : OneResult error-validation-reads.Post
error-validation κ a r r' s s' = one

pub error-added : OneResult error-added-reads.Post
error-added κ a r r' s s' = one

pub error-outer : OneResult error-outer-reads.Post
error-outer κ a r r' s s' = one

pub error-inner : OneResult error-inner-reads.Post
error-inner κ a r r' s s' = one

pub error-word : OneResult error-word-reads.Post
error-word κ a r r' s s' = one

pub children-empty : OneResult children-empty-reads.Post
children-empty κ a r r' s s' = one

pub children-with : OneResult children-with-reads.Post
children-with κ a r r' s s' = one

pub children-with_if : OneResult children-with-if-reads.Post
children-with_if κ a r r' s s' = one

pub children-add_child : OneResult children-add-child-reads.Post
children-add_child κ a r r' s s' = one

pub children-is_empty : OneResult children-is-empty-reads.Post
children-is_empty κ a r r' s s' = one

pub children-has_children : OneResult children-has-children-reads.Post
children-has_children κ a r r' s s' = one

pub children-has_child : OneResult children-has-child-reads.Post
children-has_child κ a r r' s s' = one

pub children-add_children : OneResult children-add-children-reads.Post
children-add_children κ a r r' s s' = one

pub children-remove_children : OneResult children-remove-children-reads.Post
children-remove_children κ a r r' s s' = one

pub children-count : OneResult children-count-reads.Post
children-count κ a r r' s s' = one

pub children-next : OneResult children-next-reads.Post
children-next κ a r r' s s' = one

pub context-context-new : OneResult context-context-new-reads.Post
context-context-new κ a r r' s s' = one

pub context-context-activate : OneResult context-context-activate-reads.Post
context-context-activate κ a r r' s s' = one

pub context-context-destroy : OneResult context-context-destroy-reads.Post
context-context-destroy κ a r r' s s' = one

pub context-context-add_child : OneResult context-context-add-child-reads.Post
context-context-add_child κ a r r' s s' = one

pub context-is_inactive : OneResult context-is-inactive-reads.Post
context-is_inactive κ a r r' s s' = one

pub context-is_active : OneResult context-is-active-reads.Post
context-is_active κ a r r' s s' = one

pub context-is_retired : OneResult context-is-retired-reads.Post
context-is_retired κ a r r' s s' = one

pub context-same_state : OneResult context-same-state-reads.Post
context-same_state κ a r r' s s' = one

pub context-is_normal : OneResult context-is-normal-reads.Post
context-is_normal κ a r r' s s' = one

pub handle-default : OneResult handle-default-reads.Post
handle-default κ a r r' s s' = one

pub handle-new_invalid : OneResult handle-new-invalid-reads.Post
handle-new_invalid κ a r r' s s' = one

pub handle-equals : OneResult handle-equals-reads.Post
handle-equals κ a r r' s s' = one

pub handle-is_default : OneResult handle-is-default-reads.Post
handle-is_default κ a r r' s s' = one

pub table-state-state-new : OneResult table-state-state-new-reads.Post
table-state-state-new κ a r r' s s' = one

pub table-state-with_context : OneResult table-state-with-context-reads.Post
table-state-with_context κ a r r' s s' = one

pub table-state-with_initialized : OneResult table-state-with-initialized-reads.Post
table-state-with_initialized κ a r r' s s' = one

pub context-tci-tcinodedata-new : OneResult context-tci-tcinodedata-new-reads.Post
context-tci-tcinodedata-new κ a r r' s s' = one

pub context-u8bool-get : OneResult context-u8bool-get-reads.Post
context-u8bool-get κ a r r' s s' = one

pub context-u8bool-new : OneResult context-u8bool-new-reads.Post
context-u8bool-new κ a r r' s s' = one

pub links-links_of : (T : _) (l : _) (t : _) (d : _) → OneResult (links-links-of-reads.Post T l t d)
links-links_of T l t d κ a r r' s s' = one

pub walks-descendants-descend : (T : _) (l : _) (t : _) (d : _) → OneResult (walks-descendants-descend-reads.Post T l t d)
walks-descendants-descend T l t d κ a r r' s s' = one

pub walks-descendants-get_descendants : (T : _) (l : _) (t : _) (d : _) → OneResult (walks-descendants-get-descendants-reads.Post T l t d)
walks-descendants-get_descendants T l t d κ a r r' s s' = one

pub walks_path-root_to_leaf : (T : _) (l : _) (t : _) (d : _) → OneResult (walks-path-root-to-leaf-reads.Post T l t d)
walks_path-root_to_leaf T l t d κ a r r' s s' = one

pub walks_run-run_above : (T : _) (l : _) (t : _) (d : _) → OneResult (walks-run-run-above-reads.Post T l t d)
walks_run-run_above T l t d κ a r r' s s' = one

pub wire-read_u16 : OneResult wire-read-u16-reads.Post
wire-read_u16 κ a r r' s s' = one

pub wire-read_u32 : OneResult wire-read-u32-reads.Post
wire-read_u32 κ a r r' s s' = one

pub wire-read_u64 : OneResult wire-read-u64-reads.Post
wire-read_u64 κ a r r' s s' = one

pub wire-write_u16 : (κ : _) (a : _) (r r' : _) (s s' : _) → wire-write-u16-reads.Post κ a r s → wire-write-u16-reads.Post κ a r' s' → (s.0.now ≡ s'.0.now)
wire-write_u16 κ a r r' s s' p q = one p q

pub wire-write_u32 : (κ : _) (a : _) (r r' : _) (s s' : _) → wire-write-u32-reads.Post κ a r s → wire-write-u32-reads.Post κ a r' s' → (s.0.now ≡ s'.0.now)
wire-write_u32 κ a r r' s s' p q = one p q

pub wire-write_u64 : (κ : _) (a : _) (r r' : _) (s s' : _) → wire-write-u64-reads.Post κ a r s → wire-write-u64-reads.Post κ a r' s' → (s.0.now ≡ s'.0.now)
wire-write_u64 κ a r r' s s' p q = one p q

pub wire-write_run : (κ : _) (a : _) (r r' : _) (s s' : _) → wire-write-run-reads.Post κ a r s → wire-write-run-reads.Post κ a r' s' → (s.0.now ≡ s'.0.now)
wire-write_run κ a r r' s s' p q = one p q

pub lookup-active_in : OneResult lookup-active-in-reads.Post
lookup-active_in κ a r r' s s' = one

pub lookup-active_at : (T : _) (l : _) (t : _) (d : _) → OneResult (lookup-active-at-reads.Post T l t d)
lookup-active_at T l t d κ a r r' s s' = one

pub lookup-get_active_context_pos : (T : _) (l : _) (t : _) (d : _) → OneResult (lookup-get-active-context-pos-reads.Post T l t d)
lookup-get_active_context_pos T l t d κ a r r' s s' = one

pub candidates-candidate_at : OneResult candidates-candidate-at-reads.Post
candidates-candidate_at κ a r r' s s' = one

pub candidates-generate_new_handle : (T : _) (l : _) (t : _) (d : _) → OneResult (candidates-generate-new-handle-reads.Post T l t d)
candidates-generate_new_handle T l t d κ a r r' s s' = one

pub initialize_context-not_supported : OneResult initialize-context-not-supported-reads.Post
initialize_context-not_supported κ a r r' s s' = one

pub initialize_context-both_or_neither : OneResult initialize-context-both-or-neither-reads.Post
initialize_context-both_or_neither κ a r r' s s' = one

pub initialize_context-root : OneResult initialize-context-root-reads.Post
initialize_context-root κ a r r' s s' = one

pub initialize_context-initialize_context : OneResult initialize-context-initialize-context-reads.Post
initialize_context-initialize_context κ a r r' s s' = one

pub rotate_context-rotate_context : OneResult rotate-context-rotate-context-reads.Post
rotate_context-rotate_context κ a r r' s s' = one

pub image_context-state_of : OneResult image-context-state-of-reads.Post
image_context-state_of κ a r r' s s' = one

pub image_context-type_of : OneResult image-context-type-of-reads.Post
image_context-type_of κ a r r' s s' = one

pub image_context-read_context : OneResult image-context-read-context-reads.Post
image_context-read_context κ a r r' s s' = one

pub image_kinds-answer_at : OneResult image-kinds-answer-at-reads.Post
image_kinds-answer_at κ a r r' s s' = one

pub image_kinds-kind_at : OneResult image-kinds-kind-at-reads.Post
image_kinds-kind_at κ a r r' s s' = one

pub image_kinds-are_good_kinds : OneResult image-kinds-are-good-kinds-reads.Post
image_kinds-are_good_kinds κ a r r' s s' = one

pub image_write-write_context : (κ : _) (a : _) (r r' : _) (s s' : _) → image-write-write-context-reads.Post κ a r s → image-write-write-context-reads.Post κ a r' s' → (s.0.now ≡ s'.0.now)
image_write-write_context κ a r r' s s' p q = one p q

pub image-state-readable : OneResult image-state-readable-reads.Post
image-state-readable κ a r r' s s' = one

pub image-state-is_readable : OneResult image-state-is-readable-reads.Post
image-state-is_readable κ a r r' s s' = one

pub image_table-read_state : OneResult image-table-read-state-reads.Post
image_table-read_state κ a r r' s s' = one

pub image_table-write_state : (κ : _) (a : _) (r r' : _) (s s' : _) → image-table-write-state-reads.Post κ a r s → image-table-write-state-reads.Post κ a r' s' → (r ≡ r') × (s.1.0.now ≡ s'.1.0.now)
image_table-write_state κ a r r' s s' p q = (one p.0 q.0, one p.1 q.1)

pub validation-validate_dpe : (T : _) (l : _) (t : _) (d : _) → OneResult (validation-validate-dpe-reads.Post T l t d)
validation-validate_dpe T l t d κ a r r' s s' = one

pub verdict-outcome : OneResult verdict-outcome-reads.Post
verdict-outcome κ a r r' s s' = one

pub validation_fields-support_test : OneResult validation-fields-support-test-reads.Post
validation_fields-support_test κ a r r' s s' = one

pub validation_fields-inactive_test : OneResult validation-fields-inactive-test-reads.Post
validation_fields-inactive_test κ a r r' s s' = one

pub validation_localities-places_of : (T : _) (l : _) (t : _) (d : _) → OneResult (validation-localities-places-of-reads.Post T l t d)
validation_localities-places_of T l t d κ a r r' s s' = one

pub validation_localities-localities_test : OneResult validation-localities-localities-test-reads.Post
validation_localities-localities_test κ a r r' s s' = one

pub validation_slots-context_test : OneResult validation-slots-context-test-reads.Post
validation_slots-context_test κ a r r' s s' = one

pub validation_slots-slots_test : (T : _) (l : _) (t : _) (d : _) → OneResult (validation-slots-slots-test-reads.Post T l t d)
validation_slots-slots_test T l t d κ a r r' s s' = one

pub validation_trees-trees_test : OneResult validation-trees-trees-test-reads.Post
validation_trees-trees_test κ a r r' s s' = one

pub destroy_context-destroy_slot : OneResult destroy-context-destroy-slot-reads.Post
destroy_context-destroy_slot κ a r r' s s' = one

pub destroy_context-destroy_context : OneResult destroy-context-destroy-context-reads.Post
destroy_context-destroy_context κ a r r' s s' = one

pub view-fields_at : OneResult view-fields-at-reads.Post
view-fields_at κ a r r' s s' = one

pub tell-refused : OneResult tell-refused-reads.Post
tell-refused κ a r r' s s' = one

pub tell-number : (κ : _) (a : _) (r r' : _) (s s' : _) → tell-number-reads.Post κ a r s → tell-number-reads.Post κ a r' s' → (r ≡ r') × (s.1.0.now ≡ s'.1.0.now)
tell-number κ a r r' s s' p q = (one p.0 q.0, one p.1 q.1)

pub dpe_validate : OneResult dpe-validate-reads.Post
dpe_validate κ a r r' s s' = one

pub dpe_lookup : (κ : _) (a : _) (r r' : _) (s s' : _) → dpe-lookup-reads.Post κ a r s → dpe-lookup-reads.Post κ a r' s' → (r ≡ r') × (s.1.1.1.0.now ≡ s'.1.1.1.0.now)
dpe_lookup κ a r r' s s' p q = (one p.0 q.0, one p.1 q.1)

pub dpe_initialize_context : (κ : _) (a : _) (r r' : _) (s s' : _) → dpe-initialize-context-reads.Post κ a r s → dpe-initialize-context-reads.Post κ a r' s' → (r ≡ r') × (s.0.now ≡ s'.0.now) × (s.1.1.1.1.0.now ≡ s'.1.1.1.1.0.now)
dpe_initialize_context κ a r r' s s' p q = (one p.0 q.0, one p.1.0 q.1.0, one p.1.1 q.1.1)

pub dpe_rotate_context : (κ : _) (a : _) (r r' : _) (s s' : _) → dpe-rotate-context-reads.Post κ a r s → dpe-rotate-context-reads.Post κ a r' s' → (r ≡ r') × (s.0.now ≡ s'.0.now) × (s.1.1.1.1.1.0.now ≡ s'.1.1.1.1.1.0.now)
dpe_rotate_context κ a r r' s s' p q = (one p.0 q.0, one p.1.0 q.1.0, one p.1.1 q.1.1)

pub dpe_destroy_context : (κ : _) (a : _) (r r' : _) (s s' : _) → dpe-destroy-context-reads.Post κ a r s → dpe-destroy-context-reads.Post κ a r' s' → (r ≡ r') × (s.0.now ≡ s'.0.now)
dpe_destroy_context κ a r r' s s' p q = (one p.0 q.0, one p.1 q.1)

pub dpe_descendants : (κ : _) (a : _) (r r' : _) (s s' : _) → dpe-descendants-reads.Post κ a r s → dpe-descendants-reads.Post κ a r' s' → (r ≡ r') × (s.1.1.0.now ≡ s'.1.1.0.now)
dpe_descendants κ a r r' s s' p q = (one p.0 q.0, one p.1 q.1)

pub dpe_path : (κ : _) (a : _) (r r' : _) (s s' : _) → dpe-path-reads.Post κ a r s → dpe-path-reads.Post κ a r' s' → (r ≡ r') × (s.1.1.0.now ≡ s'.1.1.0.now) × (s.1.1.1.0.now ≡ s'.1.1.1.0.now)
dpe_path κ a r r' s s' p q = (one p.0 q.0, one p.1.0 q.1.0, one p.1.1 q.1.1)

pub dpe_count : (κ : _) (a : _) (r r' : _) (s s' : _) → dpe-count-reads.Post κ a r s → dpe-count-reads.Post κ a r' s' → (r ≡ r') × (s.1.1.0.now ≡ s'.1.1.0.now)
dpe_count κ a r r' s s' p q = (one p.0 q.0, one p.1 q.1)

pub image_write-state_byte : OneResult image-write-state-byte-reads.Post
image_write-state_byte κ a r r' s s' = one

pub image_write-type_byte : OneResult image-write-type-byte-reads.Post
image_write-type_byte κ a r r' s s' = one

pub text_row-put_number : (κ : _) (a : _) (r r' : _) (s s' : _) → text-row-put-number-reads.Post κ a r s → text-row-put-number-reads.Post κ a r' s' → (r ≡ r') × (s.0.now ≡ s'.0.now)
text_row-put_number κ a r r' s s' p q = (one p.0.place q.0.place, one p.0.bytes q.0.bytes)

pub text_row-put_verdict : (κ : _) (a : _) (r r' : _) (s s' : _) → text-row-put-verdict-reads.Post κ a r s → text-row-put-verdict-reads.Post κ a r' s' → (r ≡ r') × (s.0.now ≡ s'.0.now)
text_row-put_verdict κ a r r' s s' p q = (one p.0.place q.0.place, one p.0.bytes q.0.bytes)

pub text_row-put_row : (κ : _) (a : _) (r r' : _) (s s' : _) → text-row-put-row-reads.Post κ a r s → text-row-put-row-reads.Post κ a r' s' → (r ≡ r') × (s.0.now ≡ s'.0.now)
text_row-put_row κ a r r' s s' p q = (one p.0.place q.0.place, one p.0.bytes q.0.bytes)

pub text-list : (κ : _) (a : _) (r r' : _) (s s' : _) → text-list-reads.Post κ a r s → text-list-reads.Post κ a r' s' → (r ≡ r') × (s.1.0.now ≡ s'.1.0.now)
text-list κ a r r' s s' p q = (one p.0 q.0, one p.1.0 q.1.0)

pub wire-read_array : (n : ℕ) (f : Fits w64 n) → OneResult (wire-read-array-reads.Post n f)
wire-read_array n f κ a r r' s s' = one

pub table-flags-has_bit : OneResult table-flags-has-bit-reads.Post
table-flags-has_bit κ a r r' s s' = one

pub lookup-find-count_contexts : (T : _) (l : _) (t : _) (d : _) → OneResult (lookup-find-count-contexts-reads.Post T l t d)
lookup-find-count_contexts T l t d κ a r r' s s' = one

pub lookup-find-get_next_inactive_context_pos : (T : _) (l : _) (t : _) (d : _) → OneResult (lookup-find-get-next-inactive-context-pos-reads.Post T l t d)
lookup-find-get_next_inactive_context_pos T l t d κ a r r' s s' = one

pub initialize_context-initialize_on : (T : _) (l : _) (m : _) (dm : _) (t : _) (d : _) (κ : _) (a : _) (r r' : _) (s s' : _) → initialize-context-initialize-on-reads.Post T l m dm t d κ a r s → initialize-context-initialize-on-reads.Post T l m dm t d κ a r' s' → (r ≡ r') × (t.state s.0.now ≡ t.state s'.0.now)
initialize_context-initialize_on T l m dm t d κ a r r' s s' p q = (one p.answers q.answers, one p.table q.table)

pub rotate_context-rotate_on : (T : _) (l : _) (m : _) (dm : _) (t : _) (d : _) (κ : _) (a : _) (r r' : _) (s s' : _) → rotate-context-rotate-on-reads.Post T l m dm t d κ a r s → rotate-context-rotate-on-reads.Post T l m dm t d κ a r' s' → (r ≡ r') × (t.state s.0.now ≡ t.state s'.0.now)
rotate_context-rotate_on T l m dm t d κ a r r' s s' p q = (one p.answers q.answers, one p.table q.table)

pub destroy_context-destroy_slot_on : (T : _) (l : _) (m : _) (dm : _) (t : _) (d : _) (κ : _) (a : _) (r r' : _) (s s' : _) → destroy-context-destroy-slot-on-reads.Post T l m dm t d κ a r s → destroy-context-destroy-slot-on-reads.Post T l m dm t d κ a r' s' → (r ≡ r') × (t.state s.0.now ≡ t.state s'.0.now)
destroy_context-destroy_slot_on T l m dm t d κ a r r' s s' p q = (one p.answers q.answers, one p.table q.table)

pub destroy_context-destroy_on : (T : _) (l : _) (m : _) (dm : _) (t : _) (d : _) (κ : _) (a : _) (r r' : _) (s s' : _) → destroy-context-destroy-on-reads.Post T l m dm t d κ a r s → destroy-context-destroy-on-reads.Post T l m dm t d κ a r' s' → (r ≡ r') × (t.state s.0.now ≡ t.state s'.0.now)
destroy_context-destroy_on T l m dm t d κ a r r' s s' p q = (one p.answers q.answers, one p.table q.table)

pub clearing-clear : (T : _) (l : _) (m : _) (dm : _) (t : _) (d : _) (κ : _) (a : _) (r r' : _) (s s' : _) → clearing-clear-reads.Post T l m dm t d κ a r s → clearing-clear-reads.Post T l m dm t d κ a r' s' → t.state s.0.now ≡ t.state s'.0.now
clearing-clear T l m dm t d κ a r r' s s' p q = one p.1 q.1

pub tell-found : (T : _) (l : _) (m : _) (t : _) (d : _) (κ : _) (a : _) (r r' : _) (s s' : _) → tell-found-reads.Post T l m t d κ a r s → tell-found-reads.Post T l m t d κ a r' s' → (r ≡ r') × (s.1.0.now ≡ s'.1.0.now)
tell-found T l m t d κ a r r' s s' p q = (one p.0 q.0, one p.1 q.1)

pub validation-validate_image : OneResult validation-validate-image-reads.Post
validation-validate_image κ a r r' s s' = one

pub clearing-cleared : OneResult clearing-cleared-reads.Post
clearing-cleared κ a r r' s s' = one

pub slots-marker : (T : _) (l : _) (t : _) (d : _) → OneResult (slots-marker-reads.Post T l t d)
slots-marker T l t d κ a r r' s s' = one

pub slots-version : (T : _) (l : _) (t : _) (d : _) → OneResult (slots-version-reads.Post T l t d)
slots-version T l t d κ a r r' s s' = one

pub slots-support : (T : _) (l : _) (t : _) (d : _) → OneResult (slots-support-reads.Post T l t d)
slots-support T l t d κ a r r' s s' = one

pub slots-has_initialized : (T : _) (l : _) (t : _) (d : _) → OneResult (slots-has-initialized-reads.Post T l t d)
slots-has_initialized T l t d κ a r r' s s' = one

pub slots-state_at : (T : _) (l : _) (t : _) (d : _) → OneResult (slots-state-at-reads.Post T l t d)
slots-state_at T l t d κ a r r' s s' = one

pub slots-context_type_at : (T : _) (l : _) (t : _) (d : _) → OneResult (slots-context-type-at-reads.Post T l t d)
slots-context_type_at T l t d κ a r r' s s' = one

pub slots-locality_at : (T : _) (l : _) (t : _) (d : _) → OneResult (slots-locality-at-reads.Post T l t d)
slots-locality_at T l t d κ a r r' s s' = one

pub slots-parent_at : (T : _) (l : _) (t : _) (d : _) → OneResult (slots-parent-at-reads.Post T l t d)
slots-parent_at T l t d κ a r r' s s' = one

pub slots-children_at : (T : _) (l : _) (t : _) (d : _) → OneResult (slots-children-at-reads.Post T l t d)
slots-children_at T l t d κ a r r' s s' = one

pub slots-handle_at : (T : _) (l : _) (t : _) (d : _) → OneResult (slots-handle-at-reads.Post T l t d)
slots-handle_at T l t d κ a r r' s s' = one

pub slots-context_at : (T : _) (l : _) (t : _) (d : _) → OneResult (slots-context-at-reads.Post T l t d)
slots-context_at T l t d κ a r r' s s' = one
