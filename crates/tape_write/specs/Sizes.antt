-- The sizes of tapes, by what differs: a word store takes 12 bytes, a line store 68, a flush or a barrier 4.
-- Assumes nothing.
use Rattle.std.specs.Prelude.{ℕ, ◌+◌, ◌*◌, Bool, false, ◌&&◌, eqb}
use Rattle.codec.specs.Lists.{pick}
use Rattle.journal.specs.declared.Way.{Way}
use Rattle.journal.specs.declared.Way.TheVariants.{ByLine, ByWords}

-- the stores of k lines
unfoldable pub lines_bytes : Way → ℕ → ℕ
lines_bytes ByLine k = 68 * k
lines_bytes ByWords k = 96 * k

-- n flushes and their barrier: no flush, no barrier
unfoldable pub group_bytes : ℕ → ℕ
group_bytes n = pick (eqb n 0) 0 (4 * n + 4)

-- a recovery of k headers, where the root word is as it was or differs
unfoldable pub replay_bytes : Way → ℕ → Bool → ℕ
replay_bytes way k same = lines_bytes way k + group_bytes k + 20 + pick same 0 12

-- a commit by the log: the log, the mark with its flush and barrier, the replay
unfoldable pub log_bytes : Way → ℕ → Bool → ℕ
log_bytes way k same = lines_bytes way k + group_bytes k + 20 + replay_bytes way k same

-- whether one header is all that changed, and a line store commits it
unfoldable pub commits_alone : Way → ℕ → Bool → Bool
commits_alone ByLine k same = eqb k 1 && same
commits_alone ByWords k same = false

-- what follows stage A, with k changed headers: one changed place, or the log
unfoldable pub end_bytes : Way → ℕ → Bool → ℕ
end_bytes way k same = pick (eqb k 0) 20 (pick (commits_alone way k same) 76 (log_bytes way k same))

unfoldable pub end_flushes : Way → ℕ → Bool → ℕ
end_flushes way k same = pick (eqb k 0) 1 (pick (commits_alone way k same) 1 (2 * k + 2))
