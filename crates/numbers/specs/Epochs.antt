-- Two numbers belong to epochs, and an interval of epochs meets a block or does not (01, "The lent table" and "The steps"). Assumes nothing.
use Rattle.std.specs.Prelude.{ℕ, Bool, ◌&&◌, nat_le}

-- what an idle task has in lower and upper
abbrev pub idle_mark : ℕ
idle_mark = 4294967295

-- the epoch is at most this
abbrev pub last_epoch : ℕ
last_epoch = 4294967294

-- an interval L to U meets a block when birth ≤ U and retire ≥ L (source 001, figure 5)
abbrev pub meets : (L U birth retire : ℕ) → Bool
meets L U birth retire = nat_le birth U && nat_le L retire
