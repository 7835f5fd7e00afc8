mod Judging
mod Records
mod Runs
