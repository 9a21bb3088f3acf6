-- A chunk's name, and then the chunk.
use Rattle.std.proofs.Common.{◌≡◌, ℕ, ◌+◌, List, length, ◌∙◌, arith, Ok, Err}
use Rattle.fv_outside.specs.headline.Desk.{DeskState}
use Rattle.fv_base.specs.declared.role.Role.TheVariants.{Input}
use Rattle.fv_wav.specs.headline.Reading.{rest_of, next, kind_of}
use Rattle.fv_wav.specs.Stopping.{Passes, Stops, Follows, Continues, walk_from, chunk_from}
use Rattle.fv_wav.specs.declared.head.Kind.{Kind}
use Rattle.fv_wav.specs.declared.chunks.Walk.{Walk}
use Rattle.fv_wav.specs.declared.chunks.NextChunk.{NextChunk}
use Rattle.fv_wav.specs.declared.refusal.WaveRefusal.{WaveRefusal}
use Rattle.fv_wav.proofs.lemmas.Steps.{passes_then, stops_then}
use Rattle.fv_wav.proofs.ChunkKinds.{from_name}

pub continues : (w : Walk) (k : Kind) (s : NextChunk) (name : List ℕ) (c : DeskState) {a b : DeskState} → length name ≡ 4 → k ≡ kind_of name
    → Passes (length name) (next (length name) (rest_of w.place (a.left Input)) ≡ Ok (name, rest_of (w.place + length name) (b.left Input))) a b
    → Follows w k s b c → Continues w s a c
continues w k s name c m e p f = record {
  n = 4 + f.n;
  few = let h = f.few in omega arith;
  place = let h = f.place in omega arith;
  is = f.is;
  passes = passes_then _ p f.passes (omega (arith, m)) (λ x y. from_name w _ name _ (length name) k x m e ∙ y);
}

pub stops_behind : (w : Walk) (k : Kind) (r : WaveRefusal) (name : List ℕ) (c : DeskState) {a b : DeskState} → length name ≡ 4 → k ≡ kind_of name
    → Passes (length name) (next (length name) (rest_of w.place (a.left Input)) ≡ Ok (name, rest_of (w.place + length name) (b.left Input))) a b
    → Stops (chunk_from w k (b.left Input) ≡ Err r) b c r → Stops (walk_from w (a.left Input) ≡ Err r) a c r
stops_behind w k r name c m e p s = stops_then _ p s (λ x y. from_name w _ name _ (length name) k x m e ∙ y)
