mod AllWords
mod Joined
mod LongFlags
mod ReplayWords
