-- What is fetched depends only on the code.
use Rattle.std.proofs.Common.{◌≡◌, ℕ, ◌+◌, ◌-◌, List, [], ◌∷◌, Option, Some, None, Bool, true, false, Result, Ok, Err, refl, ap, sym, ◌∙◌, cond}
use Rattle.std.specs.Prelude.{◌&&◌, ◌==◌, ◌%◌, nat_le, take, drop, find, map, if◌then◌else◌}
use Rattle.mem_regions.specs.Area.{Area}
use Rattle.mem_regions.specs.Memory.{Memory}
use Rattle.mem_regions.specs.Bytes.{le_number}
use Rattle.mem_regions.specs.Access.{is_aligned}
use Rattle.mem_regions.specs.Fetching.{fetches_in, word_found, fetch_at}
use Rattle.mem_regions.specs.declared.access.MemErr.{MemErr}
use Rattle.mem_regions.specs.declared.access.MemErr.TheVariants.{Misaligned, NoAccess}
use Rattle.rv_inst.specs.declared.isa.Isa.{Isa}
use Rattle.cf_bind.specs.declared.passenger.End.TheVariants.{Trap}
use Rattle.cf_semantics.specs.moves.Instructions.{Bad, word_read, fetched}
use Rattle.cf_semantics.specs.moves.Fetches.{Text, area_text, code_of}

-- the word lies in the text, which is executable
abbrev text_holds : ℕ → Text → Bool
text_holds pc t = (nat_le t.base pc && nat_le (pc + 4) (t.base + t.size)) && t.exec

-- the word of the text that was found
abbrev text_word : ℕ → Option Text → Result ℕ MemErr
text_word pc None = Err NoAccess
text_word pc (Some t) = Ok (le_number (take 4 (drop (pc - t.base) t.code)))

word_in_text : (pc : ℕ) (areas : List Area) → word_found pc (find (fetches_in pc) areas) ≡ text_word pc (find (text_holds pc) (map area_text areas))
word_in_text pc [] = refl
word_in_text pc (a ∷ areas) = go (fetches_in pc a) (word_in_text pc areas)
  where
    go : (b : Bool) → word_found pc (find (fetches_in pc) areas) ≡ text_word pc (find (text_holds pc) (map area_text areas)) →
        word_found pc (cond b (Some a) (find (fetches_in pc) areas)) ≡ text_word pc (cond b (Some (area_text a)) (find (text_holds pc) (map area_text areas)))
    go true e = refl
    go false e = e

-- memories with the same code have the same word at each address
fetch_alike : (m n : Memory) (pc : ℕ) → code_of m ≡ code_of n → fetch_at m pc ≡ fetch_at n pc
unfolding code_of fetch_at
fetch_alike m n pc e =
    let w : word_found pc (find (fetches_in pc) m.areas) ≡ word_found pc (find (fetches_in pc) n.areas) =
    word_in_text pc m.areas ∙ ap (λ (ts : List Text). text_word pc (find (text_holds pc) ts)) e ∙ sym (word_in_text pc n.areas) in
    ap (λ (r : Result ℕ MemErr). cond (is_aligned pc 4) r (Err Misaligned)) w

-- and the same instruction
pub fetched_alike : (isa : Isa) (m n : Memory) (pc : ℕ) → code_of m ≡ code_of n → fetched isa m pc ≡ fetched isa n pc
unfolding fetched
fetched_alike isa m n pc e = ap (λ (r : Result ℕ MemErr). if pc % 4 == 0 then word_read isa pc r else Bad (Trap 0 pc pc)) (fetch_alike m n pc e)
