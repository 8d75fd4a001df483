-- Each node is read back from its key.
use Rattle.std.proofs.Common.{◌≡◌, ℕ, List, [], ◌∷◌, ◌++◌, length, refl, sym, ap, ◌∙◌, append_assoc}
use Rattle.std.proofs.lemmas.List.{append-nil}
use Rattle.cf_semantics.specs.state.State.{State}
use Rattle.order_keys.specs.declared.node.Node.{Node}
use Rattle.order_keys.specs.Unpacked.{Unpacked, got, ReadsBack}
use Rattle.order_keys.specs.Compounds.{packed_triple, unpacked_triple}
use Rattle.order_keys.specs.Lists.{packed_items, packed_list, unpacked_items, unpacked_list}
use Rattle.order_keys.specs.Memories.{packed_change, unpacked_change, packed_changes, unpacked_changes}
use Rattle.order_keys.specs.Situations.{packed_sidings, unpacked_sidings, packed_pipes, unpacked_pipes, pipes_of, packed_fetching, unpacked_fetching, fetching_of, packed_past, unpacked_past, past_of, packed_situation, unpacked_situation, without_memory}
use Rattle.order_keys.specs.Keys.{key_of_node, unpacked_node, node_of, bare_node, KeysAreReadBack, KeysTellApart}
use Rattle.order_keys.proofs.NumbersBack.{byte_back, word_back, long_back}
use Rattle.order_keys.proofs.CompoundsBack.{pair_back, triple_back, option_back}
use Rattle.order_keys.proofs.StagesBack.{fetch_back, end_back, cell_back, op_back}
use Rattle.order_keys.proofs.PlacesBack.{places_back, registers_back}

items_read : {A : Type 0} {p : A → List ℕ} {u : List ℕ → Unpacked A} → ReadsBack p u → (xs : List A) (rest : List ℕ) →
    unpacked_items u (length xs) (packed_items p xs ++ rest) ≡ got xs rest
unfolding packed_items unpacked_items
items_read a [] rest = refl
items_read a (x ∷ xs) rest = simp (append_assoc, a.back, items_read a xs rest) refl

list_back : {A : Type 0} {p : A → List ℕ} {u : List ℕ → Unpacked A} → ReadsBack p u → ReadsBack (packed_list p) (unpacked_list u)
unfolding packed_list unpacked_list
list_back a = record { back = λ xs rest. simp (append_assoc, long_back.back) (items_read a xs rest) }

change_back : ReadsBack packed_change unpacked_change
unfolding packed_change unpacked_change
change_back = record { back = λ c rest. simp ((pair_back word_back byte_back).back (c.addr, c.byte) rest) refl }

changes_back : ReadsBack packed_changes unpacked_changes
unfolding packed_changes unpacked_changes
changes_back = record {
  back = λ c rest. simp ((triple_back (list_back change_back) (list_back change_back) word_back).back (c.bytes, c.code, c.program_break) rest) refl;
}

sidings_back : ReadsBack packed_sidings unpacked_sidings
unfolding packed_sidings unpacked_sidings
sidings_back = record { back = λ x rest. (list_back (list_back (option_back op_back))).back x rest }

pipes_back : ReadsBack packed_pipes unpacked_pipes
unfolding packed_pipes unpacked_pipes
pipes_back = record { back = λ x rest. (triple_back (list_back cell_back) sidings_back (list_back byte_back)).back x rest }

fetching_back : ReadsBack packed_fetching unpacked_fetching
unfolding packed_fetching unpacked_fetching
fetching_back = record { back = λ x rest. (triple_back fetch_back places_back registers_back).back x rest }

past_back : ReadsBack packed_past unpacked_past
unfolding packed_past unpacked_past
past_back = record { back = λ x rest. (pair_back long_back (option_back end_back)).back x rest }

situation_read : (s : State) (rest : List ℕ) → unpacked_situation (packed_situation s ++ rest) ≡ got (without_memory s) rest
unfolding packed_situation unpacked_situation
situation_read s rest =
    simp ((triple_back pipes_back fetching_back past_back).back (pipes_of s, fetching_of s, past_of s) rest) refl

node_read : (n : Node) (rest : List ℕ) → unpacked_node (key_of_node n ++ rest) ≡ got (bare_node n) rest
unfolding key_of_node unpacked_node packed_triple unpacked_triple
node_read n rest = simp (append_assoc, situation_read n.situation, changes_back.back, byte_back.back) refl

pub read_back : KeysAreReadBack
unfolding node_of
read_back n = ap (λ (x : Unpacked Node). x.value) (rw (append-nil (key_of_node n)) at (node_read n []))

pub told_apart : KeysTellApart
told_apart n m e = sym (read_back n) ∙ (ap node_of e ∙ read_back m)

pub ruleset reading = (read_back, told_apart)
