mod Itself
