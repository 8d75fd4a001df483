-- Nodes as bytes: the state, the changes of its memory, and the number of Issue moves.
use Rattle.std.specs.Prelude.{◌≡◌, ℕ, List, [], None, false, replicate}
use Rattle.cf_bind.specs.declared.packet.Fetch.TheVariants.{Waiting}
use Rattle.cf_semantics.specs.state.State.{State}
use Rattle.mem_changes.specs.MemoryChanges.{MemoryChanges}
use Rattle.order_model.specs.Situations.{no_memory}
use Rattle.order_keys.specs.declared.node.Node.{Node}
use Rattle.order_keys.specs.Unpacked.{Unpacked, as_read}
use Rattle.order_keys.specs.Numbers.{packed_byte, unpacked_byte}
use Rattle.order_keys.specs.Compounds.{packed_triple, unpacked_triple}
use Rattle.order_keys.specs.Situations.{packed_situation, unpacked_situation, without_memory}
use Rattle.order_keys.specs.Memories.{packed_changes, unpacked_changes}

-- the key of a node
unfoldable pub key_of_node : Node → List ℕ
key_of_node n = packed_triple packed_situation packed_changes packed_byte (n.situation, n.changes, n.issues)

abbrev pub node_in : State × MemoryChanges × ℕ → Node
node_in x = record { situation = x.0; changes = x.1; issues = x.2 }

unfoldable pub unpacked_node : List ℕ → Unpacked Node
unpacked_node bs = as_read node_in (unpacked_triple unpacked_situation unpacked_changes unpacked_byte bs)

-- the node with this key
unfoldable pub node_of : List ℕ → Node
node_of key = (unpacked_node key).value

-- a node without stages, into which another can be read
abbrev pub blank_node : Node
blank_node = record {
  situation = record {
    cells = [];
    sidings = [];
    lane = [];
    fetch = Waiting;
    cache = replicate 32 None;
    regs = replicate 32 0;
    mem = no_memory;
    retired = 0;
    ending = None;
    failed = false;
  };
  changes = record { bytes = []; code = []; program_break = 0 };
  issues = 0;
}

-- the node, whose state is without a memory
abbrev pub bare_node : Node → Node
bare_node n = record n { situation = without_memory n.situation }

-- the node of a node's key is that node
abbrev pub KeysAreReadBack : Type 0
KeysAreReadBack = (n : Node) → node_of (key_of_node n) ≡ bare_node n

-- no two nodes have the same key
abbrev pub KeysTellApart : Type 0
KeysTellApart = (n m : Node) → key_of_node n ≡ key_of_node m → bare_node n ≡ bare_node m
