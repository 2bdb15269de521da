mod Joined
mod MadeCalls
