-- Nodes in buckets by their hashes, and in each bucket a chain of their numbers.
use Rattle.std.specs.Prelude.{◌≡◌, ◌<◌, ◌≤◌, ◌-◌, ◌%◌, ◌^◌, ℕ, List, length, map, slice_index}
use Rattle.std.specs.Hash.FoldHasher.{initial, write, finish}

-- the hash of a node
unfoldable pub hash_of : List ℕ → ℕ
hash_of node = finish (write initial node) % 2 ^ 32

-- the bucket of a node with a hash, of this many buckets
abbrev pub bucket_with : ℕ → ℕ → ℕ
bucket_with buckets hash = hash % buckets

-- the bucket of a node
unfoldable pub bucket_of : ℕ → List ℕ → ℕ
bucket_of buckets node = bucket_with buckets (hash_of node)

-- 1 more than the highest number below `from` that is in the bucket, or 0 if there is none; these are the buckets of
-- the numbers
pub record IsHighestBelow (buckets : List ℕ) (bucket from top : ℕ) : Type 0 where
  pub below : top ≤ from
  pub there : 0 < top → slice_index buckets (top - 1) ≡ bucket
  pub highest : (i : ℕ) → top ≤ i → i < from → slice_index buckets i ≡ bucket → ⊥

-- the first of each chain is the highest number of its bucket, and the next of each number the next lower one
pub record AreChains (buckets heads links : List ℕ) : Type 0 where
  pub some : 0 < length heads
  pub as_many : length links ≡ length buckets
  pub first : (bucket : ℕ) → bucket < length heads → IsHighestBelow buckets bucket (length buckets) (slice_index heads bucket)
  pub next : (number : ℕ) → number < length links → IsHighestBelow buckets (slice_index buckets number) number (slice_index links number)

-- the nodes with their hashes, in chains by their buckets
pub record AreChained (nodes : List (List ℕ)) (hashes heads links : List ℕ) : Type 0 where
  pub hashed : hashes ≡ map hash_of nodes
  pub chained : AreChains (map (bucket_of (length heads)) nodes) heads links
