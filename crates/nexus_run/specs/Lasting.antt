-- What a text that a command has written is brought to the place where it lasts.
use Rattle.std.specs.Prelude.{◌≡◌, ◌≢◌, ℕ}
use Rattle.nx_io.specs.Streams.{one_more}

-- A run that came to a status with the last byte that it wrote ends with this one: where all was done, all is synced, or the sink has failed in that,
-- and the status is 5; else it ends as it is.
pub data EndsLasting (synced : Type 0) (written status faults faults_now : ℕ) : Type 0 where
  lasts : written ≡ 0 → status ≡ 0 → synced → faults_now ≡ faults → EndsLasting synced written status faults faults_now
  unsynced : written ≡ 0 → status ≡ 5 → faults_now ≡ one_more faults → EndsLasting synced written status faults faults_now
  undone : written ≢ 0 → status ≡ written → faults_now ≡ faults → EndsLasting synced written status faults faults_now
