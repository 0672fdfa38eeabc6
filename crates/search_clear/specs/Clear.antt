-- The bytes with the working bytes, 20 to 39, of each of the first n labels zero.
use Rattle.std.specs.Prelude.{List, ℕ, zero, suc, ◌+◌, ◌*◌}
use Rattle.words.specs.Number.{put}
use Rattle.labels.specs.Field.{label_bytes}

unfoldable pub clear_work : ℕ → List ℕ → List ℕ
clear_work zero l = l
clear_work (suc n) l = put 8 (put 8 (put 4 (clear_work n l) (n * label_bytes + 20) 0) (n * label_bytes + 24) 0) (n * label_bytes + 32) 0
